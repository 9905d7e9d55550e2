use Rattle.std.proofs.Common.{sym, ◌∙◌, arith}
use Rattle.litmus_tokens.proofs.Gaps.{no_gap_above, gap_over_comment, gap_over_unclosed}
use Rattle.litmus_tokens.proofs.gap.after_one.Goals as goal

pub returns-then-first-gt40 : goal.returns-then-first-gt40
returns-then-first-gt40 c = no_gap_above c.args.bytes.now c.in-Some.after.now c.in-Some.first.now c.in-Some.ensures.cases.0 c.if-first-gt40.true

pub returns-in-Some-after_comment : goal.returns-in-Some-after_comment
returns-in-Some-after_comment c = (
  gap_over_comment _ _ _ _ _ _ c.in-Some.ensures.cases.0 (sym c.is_space.ensures ∙ c.if-is_space.false)
      c.in-Some-split_first.ensures.cases.0 c.if-first-ne40.false c.if-second-ne42.false
      c.in-Some-after_comment.ensures.value,
  omega (arith, c.in-Some.ensures.cases.1, c.in-Some-split_first.ensures.cases.1, c.in-Some-after_comment.ensures.shorter),
)

pub returns-in-None : goal.returns-in-None
returns-in-None c =
    gap_over_unclosed _ _ _ _ _ c.in-Some.ensures.cases.0 (sym c.is_space.ensures ∙ c.if-is_space.false)
    c.in-Some-split_first.ensures.cases.0 c.if-first-ne40.false c.if-second-ne42.false c.in-None.ensures.value
