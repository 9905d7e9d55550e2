use Rattle.witnesses.proofs.Vocabulary.{◌≡◌, ◌++◌, drop, last_steps}
use Rattle.witnesses.proofs.along.push_last_steps.Given as goal

abbrev pub invariant-loop-core : goal.invariant-loop-core
invariant-loop-core l =
    l.choices.items ++ last_steps l.core (drop l.core l.test.programs) l.places
    ≡ l.fn.choices.items ++ last_steps 0 l.test.programs l.places
