-- What is written of the states that are kept: their values are beside them, and aren't looked up again.
use Rattle.std.specs.Prelude.{ℕ, List, [], ◌∷◌, ◌++◌, map}
use Rattle.serde_json.specs.Data.{Data}
use Rattle.tso_terms.specs.Litmus.{Litmus}
use Rattle.tso_report.specs.declared.named.Named.{Named}
use Rattle.search_report.specs.Outcomes.{Outcome, state_line, by_line}
use Rattle.search_report.specs.OutcomesJson.{state_value, holds_in}

-- both lines of each
abbrev pub kept_lines : Litmus → List Named → List (List ℕ × Outcome) → List ℕ
kept_lines t names [] = []
kept_lines t names (k ∷ rest) = state_line t names k.0 ++ (by_line k.1.choices ++ kept_lines t names rest)

-- the value of each
abbrev pub kept_values : Litmus → List Named → List (List ℕ × Outcome) → List Data
kept_values t names kept = map (λ k. state_value t names k.0 k.1.choices (holds_in t.condition k.1)) kept
