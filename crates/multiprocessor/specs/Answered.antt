-- Choices with the caches' answers along a run: each choice is answered by the caches as the choices before it left them.
-- On a split bus that answer, whether the access hits, decides whether a choice asks for the bus or acts at once.
use Rattle.std.specs.Prelude.{ℕ, List, [], ◌∷◌}
use Rattle.multiprocessor.specs.Vocabulary.{Attempt, BusState, Geometry, Litmus, start, Table, unheld}
use Rattle.basic_laws.specs.Types.{Bus, Choice}
use Rattle.multiprocessor.specs.Caches.{Caches, attempt_of, use_on, state_after_on}
use Rattle.multiprocessor.specs.Statistics.{no_statistics}

-- from a state on, with these caches
abbrev pub answered_from : Bus → Litmus → ℕ → BusState → Caches → List Choice → List Attempt
answered_from bus t depth state c [] = []
answered_from bus t depth state c (choice ∷ rest) =
    attempt_of t depth state.flat c choice
    ∷ answered_from bus t depth (state_after_on bus t depth state c choice) (use_on bus t depth state choice c).caches rest

-- from the beginning of the test on, with empty caches of this shape
abbrev pub answered : Bus → Table → Geometry → Litmus → ℕ → List Choice → List Attempt
answered bus table shape t depth choices = answered_from bus t depth (unheld (start t)) (no_statistics table shape t).caches choices
