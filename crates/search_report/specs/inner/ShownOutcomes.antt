-- The final states that are kept to be printed, as far as the list of them was gone through: the first of those that look
-- alike, at their values.
use Rattle.std.specs.Prelude.{ℕ, ◌≡◌, Bool, List, [], ◌∷◌, map, length, All, Vec, is_some, if◌then◌else◌}
use Rattle.std.specs.Borrow.{Bor}
use Rattle.std.specs.Ordering.{nat_cmp}
use Rattle.std.specs.Cmp.Lexicographic.{slice_cmp}
use Rattle.std.specs.BTreeMap.{insert_entry, is_at}
use Rattle.std.specs.Map.{lookup}
use Rattle.std.specs.declared.alloc.Global.{Global}
use Rattle.tso_terms.specs.Litmus.{Litmus}
use Rattle.tso_terms.specs.Condition.{Claim, NamesExist}
use Rattle.explorer.specs.declared.final_states.FinalState.{FinalState}
use Rattle.tso_report.specs.declared.named.Named.{Named}
use Rattle.tso_report.specs.inner.Tally.{NameExists}
use Rattle.search_report.specs.Outcomes.{Outcome, outcome_of, shown_values}

-- each name is of a core or a location of the test
abbrev pub AreNamesOf : Litmus → List Named → Type 0
AreNamesOf t names = All (NameExists (length t.programs) (length t.locations)) names

-- a state of the test: it has registers for each core and a word for each location
pub record IsOutcomeOf (t : Litmus) (o : Outcome) : Type 0 where
  pub registers : length o.registers ≡ length t.programs
  pub memory : length o.memory ≡ length t.locations

-- the outcomes that a map keeps, each with its values
abbrev pub kept_of : List (Vec ℕ Global × Bor FinalState) → List (List ℕ × Outcome)
kept_of entries = map (λ e. (e.0.items, outcome_of e.1.now)) entries

-- the outcomes that states are
abbrev pub outcomes_at : List (Bor FinalState) → List Outcome
outcomes_at states = map (λ s. outcome_of s.now) states

-- whether one with these values is kept
abbrev pub is_kept : List ℕ → List (List ℕ × Outcome) → Bool
is_kept values kept = is_some (lookup (is_at (slice_cmp nat_cmp values)) kept)

-- the outcome is kept too, unless one with these values was
abbrev pub with_outcome : List ℕ → Outcome → List (List ℕ × Outcome) → List (List ℕ × Outcome)
with_outcome values o kept = if is_kept values kept then kept else insert_entry (slice_cmp nat_cmp) kept values o

-- those of further final states, one after the other
abbrev pub kept_after : List Named → List (List ℕ × Outcome) → List FinalState → List (List ℕ × Outcome)
kept_after names kept [] = kept
kept_after names kept (f ∷ rest) = kept_after names (with_outcome (shown_values names (outcome_of f)) (outcome_of f) kept) rest

-- the values of each are those that it shows, and it is a state of the test
abbrev pub AreShown : Litmus → List Named → List (List ℕ × Outcome) → Type 0
AreShown t names kept = All (λ k. (k.0 ≡ shown_values names k.1) × IsOutcomeOf t k.1) kept

-- each of these states has the cores and the locations that the claim names
abbrev pub AllHave : Claim → List Outcome → Type 0
AllHave claim outcomes = All (λ o. NamesExist (length o.registers) (length o.memory) claim) outcomes
