use Rattle.found_reasons.proofs.Vocabulary.{◌≡◌, ◌++◌, drop, filter}
use Rattle.found_reasons.specs.inner.Steps as spec
use Rattle.found_reasons.proofs.choices.unbuffered_choices.Given as goal

abbrev pub invariant-loop-choice : goal.invariant-loop-choice
invariant-loop-choice l = filter spec.is_step l.choice-items ≡ l.steps.items ++ filter spec.is_step (drop l.choice-index l.choice-items)
