use Rattle.std.proofs.Common.{◌≡◌, drop}
use Rattle.tso_terms.specs.FinalState.{word_after}
use Rattle.execution_check.proofs.final_state.word_left.Given as goal

abbrev pub invariant-loop-e : goal.invariant-loop-e
invariant-loop-e l = word_after l.loc l.order l.first ≡ word_after l.loc (drop l.e-index l.order) l.word
