-- What a search must have found, so that its final states are printed as all that there are.
use Rattle.std.specs.Prelude.{ℕ, List, map, Contains}
use Rattle.tso_cli.specs.Vocabulary.{IsEnd, Litmus, Named, outcome_of, shown_values, values_at}
use Rattle.explorer.specs.declared.final_states.FinalState.{FinalState}

-- every end of the machine's runs at this depth looks like one of them by the values at these names
abbrev pub ShowEveryEnd : Litmus → List Named → ℕ → List FinalState → Type 0
ShowEveryEnd t names depth finals =
    (registers : List (List ℕ)) (memory : List ℕ) → IsEnd t depth registers memory
    → Contains (map (λ f. shown_values names (outcome_of f)) finals) (values_at names registers memory)
