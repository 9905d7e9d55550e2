use Rattle.std.proofs.Common.{sym, ◌∙◌, arith}
use Rattle.litmus_tokens.proofs.Prefixes.{prefix_begins, prefix_on, prefix_is, prefix_all}
use Rattle.std.specs.Char as char
use Rattle.litmus_tokens.proofs.lexing.digits_len.Goals as goal

pub loop-at-init : goal.loop-at-init
loop-at-init c = record { some = omega arith; same = prefix_begins char.is_ascii_digit c.args.bytes.now c.requires.some c.requires.begins }

pub loop-at-preserved : goal.loop-at-preserved
loop-at-preserved c = record {
  some = omega arith;
  same =
      prefix_on char.is_ascii_digit c.args.bytes.now c.loop-at.at _ c.loop-at-test.true
      (sym c.is_ascii_digit.ensures.value ∙ c.if-not-is_ascii_digit.false)
      ∙ c.loop-at.invariant.same;
}

pub returns-then-not-is_ascii_digit-clause-value : goal.returns-then-not-is_ascii_digit-clause-value
returns-then-not-is_ascii_digit-clause-value c =
    prefix_is char.is_ascii_digit c.args.bytes.now c.loop-at.at _ c.loop-at-test.true
    (sym c.is_ascii_digit.ensures.value ∙ c.if-not-is_ascii_digit.true) c.loop-at.invariant.same

pub returns-clause-value : goal.returns-clause-value
returns-clause-value c =
    prefix_all char.is_ascii_digit c.args.bytes.now c.loop-at.at c.loop-at-test.false
    (c.loop-at.auto.at-end (let some = c.requires.some in omega (arith, some))) c.loop-at.invariant.same
