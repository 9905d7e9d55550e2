use Rattle.std.proofs.Common.{◌∙◌, None, Some, sym, arith}
use Rattle.litmus_tokens.proofs.Lexemes.{ended, numbered, named, too_long, signed, symboled, after_run}
use Rattle.litmus_tokens.proofs.lexing.lexeme_at.Goals as goal

pub returns-in_default-clause-value : goal.returns-in_default-clause-value
returns-in_default-clause-value c = ended c.args.set c.args.bytes.now c.in_default.ensures.value

pub returns-then-is_ascii_digit-clause-value : goal.returns-then-is_ascii_digit-clause-value
returns-then-is_ascii_digit-clause-value c =
    numbered c.args.set c.args.bytes.now _ c.in-Some.first.now c.in-Some.ensures.value (sym c.is_ascii_digit.ensures.value ∙ c.if-is_ascii_digit.true)
    c.number_at_front.ensures.value

pub returns-then-name-gt-MAX_NAME-clause-value : goal.returns-then-name-gt-MAX_NAME-clause-value
returns-then-name-gt-MAX_NAME-clause-value c =
    too_long c.args.set c.args.bytes.now c.split_at.result.0.now c.in-Some.first.now c.name_len.result c.in-Some.ensures.value
    (sym c.is_ascii_digit.ensures.value ∙ c.if-is_ascii_digit.false) (sym c.begins.ensures ∙ c.if-begins.true)
    c.name_len.ensures.value c.split_at.ensures.front c.if-name-gt-MAX_NAME.true

pub returns-then-begins-clause-value : goal.returns-then-begins-clause-value
returns-then-begins-clause-value c =
    named c.args.set c.args.bytes.now c.split_at.result.0.now c.split_at.result.1.now c.in-Some.first.now c.name_len.result c.in-Some.ensures.value
    (sym c.is_ascii_digit.ensures.value ∙ c.if-is_ascii_digit.false) (sym c.begins.ensures ∙ c.if-begins.true)
    c.name_len.ensures.value c.split_at.ensures.front c.split_at.ensures.back c.if-name-gt-MAX_NAME.false

pub returns-in-Some-symbol_of-clause-value : goal.returns-in-Some-symbol_of-clause-value
returns-in-Some-symbol_of-clause-value c =
    symboled c.args.set c.args.bytes.now c.in-Some.first.now (Some (c.in-Some-symbol_of.symbol, c.in-Some-symbol_of.rest.now)) c.in-Some.ensures.value
    (sym c.is_ascii_digit.ensures.value ∙ c.if-is_ascii_digit.false) (sym c.begins.ensures ∙ c.if-begins.false) (sym c.is_minus.ensures ∙ c.if-is_minus.false)
    c.in-Some-symbol_of.ensures.value

pub returns-in-None-clause-value : goal.returns-in-None-clause-value
returns-in-None-clause-value c =
    symboled c.args.set c.args.bytes.now c.in-Some.first.now None c.in-Some.ensures.value
    (sym c.is_ascii_digit.ensures.value ∙ c.if-is_ascii_digit.false) (sym c.begins.ensures ∙ c.if-begins.false) (sym c.is_minus.ensures ∙ c.if-is_minus.false)
    c.in-None.ensures.value

pub returns-then-begins-clause-shorter : goal.returns-then-begins-clause-shorter
returns-then-begins-clause-shorter c =
    after_run c.args.bytes.now c.split_at.result.1.now c.in-Some.first.now c.name_len.result c.in-Some.ensures.value
    c.name_len.ensures.some c.split_at.ensures.back

pub returns-then-is_minus-clause-value : goal.returns-then-is_minus-clause-value
returns-then-is_minus-clause-value c =
    signed c.args.set c.args.bytes.now c.split_at-then-is_minus.result.1.now c.in-Some.first.now c.in-Some.ensures.value
    (sym c.is_ascii_digit.ensures.value ∙ c.if-is_ascii_digit.false) (sym c.begins.ensures ∙ c.if-begins.false) (sym c.is_minus.ensures ∙ c.if-is_minus.true)
    c.split_at-then-is_minus.ensures.back

pub returns-then-is_minus-clause-shorter : goal.returns-then-is_minus-clause-shorter
returns-then-is_minus-clause-shorter c =
    after_run c.args.bytes.now c.split_at-then-is_minus.result.1.now c.in-Some.first.now 1 c.in-Some.ensures.value
    (omega arith) c.split_at-then-is_minus.ensures.back
