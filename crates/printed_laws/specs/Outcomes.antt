-- What `outcomes` prints tells what it shows: of one test, what is shown alike is the same.
use Rattle.std.specs.Prelude.{ℕ, ◌≡◌, ◌<◌, ◌^◌, Bool, List, map, length, All}
use Rattle.printed_laws.specs.Vocabulary.{IsStateAt, IsTest, Litmus, Named, names_shown, Outcome, shown_values}
use Rattle.scheduler.specs.Printed.{printed_choices}
use Rattle.tso_report.specs.declared.show.Show.{Show}
use Rattle.search_report.specs.PrintedOutcomes.{outcomes_in}
use Rattle.search_report.specs.Laws.{OutcomesAreAlike}
use Rattle.tso_cli.specs.Outcomes.{AreAllOutcomes}

-- final states, fewer than 2^64: each has a word for each register and location that is shown, which have these names
pub record OutcomesFit (names : List Named) (outcomes : List Outcome) : Type 0 where
  pub states : All (λ o. IsStateAt names (shown_values names o)) outcomes
  pub few : length outcomes < 2 ^ 64

-- the same values in the same order, the same counts, the same states in which the proposition is true, and the same choices
pub record ShowTheSame (t : Litmus) (names : List Named) (outcomes others : List Outcome) : Type 0 where
  pub alike : OutcomesAreAlike t names outcomes others
  pub choices : map (λ o. printed_choices o.choices) outcomes ≡ map (λ o. printed_choices o.choices) others

-- of the states of a search: the values of each, the choices that lead there, the counts, and in which the proposition is true
abbrev pub OutcomesTellTheirStates : Bool → Type 0
OutcomesTellTheirStates json =
    (show : Show) (t : Litmus) (depth other_depth : ℕ) (outcomes others : List Outcome)
    → IsTest t → depth < 2 ^ 64 → other_depth < 2 ^ 64 → OutcomesFit (names_shown show t) outcomes → OutcomesFit (names_shown show t) others
    → outcomes_in json t (names_shown show t) depth outcomes ≡ outcomes_in json t (names_shown show t) other_depth others
    → (depth ≡ other_depth) × ShowTheSame t (names_shown show t) outcomes others

-- also of another test, and where something else is shown: which test it was, by its name, and the depth
abbrev pub OutcomesTellTheirTests : Bool → Type 0
OutcomesTellTheirTests json =
    (t u : Litmus) (names others_names : List Named) (depth other_depth : ℕ) (outcomes others : List Outcome)
    → IsTest t → IsTest u → depth < 2 ^ 64 → other_depth < 2 ^ 64 → OutcomesFit names outcomes → OutcomesFit others_names others
    → outcomes_in json t names depth outcomes ≡ outcomes_in json u others_names other_depth others
    → (t.name ≡ u.name) × (depth ≡ other_depth)

-- the states that `outcomes` prints of a test are states of it
abbrev pub PrintedStatesFit : Type 0
PrintedStatesFit =
    (t : Litmus) (names : List Named) (depth : ℕ) (outcomes : List Outcome)
    → IsTest t → AreAllOutcomes t names depth outcomes → All (λ o. IsStateAt names (shown_values names o)) outcomes
