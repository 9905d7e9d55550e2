use Rattle.witnesses.proofs.Vocabulary.{◌≡◌, ◌++◌, steps}
use Rattle.witnesses.proofs.along.push_steps.Given as goal

abbrev pub invariant-loop-step : goal.invariant-loop-step
invariant-loop-step l = l.choices.items ≡ l.fn.choices.items ++ steps l.fn.core.0 l._step
