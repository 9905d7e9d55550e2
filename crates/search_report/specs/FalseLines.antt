-- What a line `False` says of a branch: whatever values its places have of those that stand beside them, and whatever the rest may be, one of
-- the propositions that are given there isn't as it is given.
use Rattle.std.specs.Prelude.{ℕ, ◌≡◌, true, All, Contains, List}
use Rattle.std.specs.List.{list_any}
use Rattle.tso_terms.specs.Litmus.{Litmus}
use Rattle.tso_terms.specs.Condition.{truth_of}
use Rattle.possible_reads.specs.Facts.{Fact, Holds}
use Rattle.lemma_refutations.specs.Refutations.{is_impossible, known_from}
use Rattle.tso_report.specs.Tally.{shown_value}
use Rattle.search_report.specs.Places.{Place}
use Rattle.search_report.specs.Shown.{places_false}

-- a final state in which the proposition is as it is given; other facts say nothing of it
abbrev pub IsAsGiven : List (List ℕ) → List ℕ → Fact → Type 0
IsAsGiven registers memory (Holds claim truth) = truth_of registers memory claim ≡ truth
IsAsGiven registers memory _ = Unit {0}

-- a final state in which each of these places has one of its values
abbrev pub HasOneOfEach : List (List ℕ) → List ℕ → List Place → Type 0
HasOneOfEach registers memory places = All (λ (p : Place). Contains p.values (shown_value registers memory p.named)) places

abbrev pub FalseLinesAreSo : Type 0
FalseLinesAreSo =
    (t : Litmus) (facts : List Fact) (registers : List (List ℕ)) (memory : List ℕ)
    → list_any (is_impossible t (known_from t facts)) facts ≡ true → HasOneOfEach registers memory (places_false t (known_from t facts) facts)
    → All (IsAsGiven registers memory) facts → ⊥
