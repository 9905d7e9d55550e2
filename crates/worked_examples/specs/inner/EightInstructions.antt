-- The choices of the thread of all eight instructions.
use Rattle.std.specs.Prelude.{List, [], ◌∷◌}
use Rattle.tso_terms.specs.declared.choice.Choice.{Choice}
use Rattle.worked_examples.specs.Written.{step, drain}

-- a run at depth 2, 0s 0d 1s 1s 1s 1s 1s 1d 1d 1s 1s 1s, and what it commits
abbrev pub eight_choices : List Choice
eight_choices =
    step 0 ∷ drain 0 ∷ step 1 ∷ step 1 ∷ step 1 ∷ step 1 ∷ step 1 ∷ drain 1 ∷ drain 1 ∷ step 1 ∷ step 1 ∷ step 1 ∷ []
