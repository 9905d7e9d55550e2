use Rattle.std.proofs.Common.{refl, sym, ◌∙◌}
use Rattle.litmus_tokens.proofs.Gaps.{comment_goes_on, comment_ends, comment_open, rest-shorter}
use Rattle.litmus_tokens.proofs.gap.after_comment.Goals.{else-first-eq42-via-then-first-eq42+else-second-eq41, else-first-eq42-via-else-first-eq42}
use Rattle.litmus_tokens.proofs.gap.after_comment.Goals as goal

pub loop-rest-preserved : goal.loop-rest-preserved
loop-rest-preserved c = record {
  same = comment_goes_on c.loop-rest.rest.now _ refl c.in-len2-up.len_at_least (λ one two. elim c.else-first-eq42.branch [
    | else-first-eq42-via-then-first-eq42+else-second-eq41 w ↦ w.if-second-eq41.false two
    | else-first-eq42-via-else-first-eq42 w ↦ w.if-first-eq42.false one
  ]) ∙ c.loop-rest.invariant.same;
  within = rest-shorter c.loop-rest.rest.now _ _ refl c.loop-rest.invariant.within;
}

pub returns-then-second-eq41-clause-value : goal.returns-then-second-eq41-clause-value
returns-then-second-eq41-clause-value c =
    sym (comment_ends c.loop-rest.rest.now _ refl c.in-len2-up.len_at_least c.if-first-eq42.true c.if-second-eq41.true) ∙ c.loop-rest.invariant.same

pub returns-clause-value : goal.returns-clause-value
returns-clause-value c = sym (comment_open c.loop-rest.rest.now c.in_default.len_below) ∙ c.loop-rest.invariant.same
