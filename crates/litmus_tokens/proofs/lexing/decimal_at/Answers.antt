use Rattle.litmus_tokens.proofs.Lexemes.{decimal}
use Rattle.std.proofs.lemmas.List.{length-drop}
use Rattle.std.proofs.Common.{arith}
use Rattle.litmus_tokens.proofs.lexing.decimal_at.Goals as goal

pub returns-clause-value : goal.returns-clause-value
returns-clause-value c =
    decimal c.args.bytes.now c.split_at.result.0.now c.split_at.result.1.now c.without_zeros.result.now c.digits_len.result c.digits_len.ensures.value
    c.split_at.ensures.front c.split_at.ensures.back c.without_zeros.ensures

pub returns-clause-shorter : goal.returns-clause-shorter
returns-clause-shorter c =
    let some = c.digits_len.ensures.some in
    let all = c.requires.some in
    rw c.split_at.ensures.back (omega (arith, some, all, length-drop c.digits_len.result c.args.bytes.now))
