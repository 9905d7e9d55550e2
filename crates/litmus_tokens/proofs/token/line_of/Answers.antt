use Rattle.std.proofs.Common.{ℕ, ◌+◌, ◌==◌, ap, sym, ◌∙◌}
use Rattle.std.proofs.lemmas.Bool.{eq-eqb, ne_eqb}
use Rattle.std.proofs.lemmas.List.Sums.{count_by_more_yes, count_by_more_no}
use Rattle.litmus_tokens.proofs.token.line_of.Goals as goal
use Rattle.litmus_tokens.proofs.token.line_of.Goals.{then-byte-eq10, else-byte-eq10}

pub loop-byte-preserved : goal.loop-byte-preserved
loop-byte-preserved c = elim c.if-byte-eq10.branch [
  | then-byte-eq10 w ↦
      w.ends-is ∙ ap (λ n. n + 1) c.loop-byte.invariant
      ∙ sym (count_by_more_yes (λ (b : ℕ). b == 10) _ c.loop-byte.byte-index _ c.loop-byte-test.true (eq-eqb _ _ w.if-byte-eq10.true))
  | else-byte-eq10 w ↦
      w.ends-is ∙ c.loop-byte.invariant
      ∙ sym (count_by_more_no (λ (b : ℕ). b == 10) _ c.loop-byte.byte-index _ c.loop-byte-test.true (ne_eqb _ _ w.if-byte-eq10.false))
]
