use Rattle.litmus_tokens.proofs.Lexemes.{sixteens, sixteens_shorter}
use Rattle.litmus_tokens.proofs.lexing.hexadecimal_at.Goals as goal

pub returns-clause-value : goal.returns-clause-value
returns-clause-value c =
    sixteens c.args.bytes.now c.split_at.result.1.now c.split_at-2.result.0.now c.split_at-2.result.1.now c.hexadecimal_len.result c.split_at.ensures.back
    c.hexadecimal_len.ensures.value c.split_at-2.ensures.front c.split_at-2.ensures.back

pub returns-clause-shorter : goal.returns-clause-shorter
returns-clause-shorter c =
    sixteens_shorter c.args.bytes.now c.split_at.result.1.now c.split_at-2.result.1.now c.hexadecimal_len.result
    c.requires c.split_at.ensures.back c.split_at-2.ensures.back
