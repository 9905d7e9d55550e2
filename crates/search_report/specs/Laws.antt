-- What the laws say that are too long for a line: each is the contract of the function of the same name. So it doesn't
-- matter which of two states that look alike is printed.
use Rattle.std.specs.Prelude.{ℕ, ◌≡◌, ◌↔◌, Bool, List, map, Some, Contains}
use Rattle.std.specs.Option.{ForSome}
use Rattle.std.specs.Ordering.{nat_cmp}
use Rattle.std.specs.Cmp.Lexicographic.{slice_cmp}
use Rattle.std.specs.List.Sorted.{IsStrictlySortedBy}
use Rattle.tso_terms.specs.Litmus.{Litmus, IsTest}
use Rattle.tso_terms.specs.Condition.{Condition, truth_of}
use Rattle.explorer.specs.FinalStates.{Have}
use Rattle.explorer.specs.declared.final_states.FinalState.{FinalState}
use Rattle.tso_report.specs.declared.named.Named.{Named}
use Rattle.tso_report.specs.ShownNames.{names_shown}
use Rattle.tso_report.specs.declared.show.Show.{Show}
use Rattle.search_report.specs.Hidden.{AreNotShown}
use Rattle.search_report.specs.Outcomes.{Outcome, shown_values, ArePrinted, held_in, failed_in, true_in}
use Rattle.search_report.specs.OutcomesJson.{holds_in}

-- of two states that look alike the condition's proposition is true in both, or in none
abbrev pub TruthIsShown : Type 0
TruthIsShown =
    (show : Show) (t : Litmus) (condition : Condition) (o p : Outcome) → IsTest t → t.condition ≡ Some condition
    → shown_values (names_shown show t) o ≡ shown_values (names_shown show t) p
    → truth_of o.registers o.memory condition.claim ≡ truth_of p.registers p.memory condition.claim

-- they have the same values in the same order; and where there is a condition, its proposition is true in the same ones of them, and
-- true and false in as many
pub record OutcomesAreAlike (t : Litmus) (names : List Named) (outcomes others : List Outcome) : Type 0 where
  pub values : map (shown_values names) outcomes ≡ map (shown_values names) others
  pub holds : map (holds_in t.condition) outcomes ≡ map (holds_in t.condition) others
  pub held : ForSome t.condition (λ c. held_in c.claim outcomes ≡ held_in c.claim others)
  pub failed : ForSome t.condition (λ c. failed_in c.claim outcomes ≡ failed_in c.claim others)
  pub numbers : ForSome t.condition (λ c. true_in c.claim outcomes ≡ true_in c.claim others)

-- outcomes whose values ascend and are the same values are alike
abbrev pub OutcomesOfTheSameValuesAreAlike : Type 0
OutcomesOfTheSameValuesAreAlike =
    (show : Show) (t : Litmus) (outcomes others : List Outcome) → IsTest t
    → IsStrictlySortedBy (slice_cmp nat_cmp) (map (shown_values (names_shown show t)) outcomes)
    → IsStrictlySortedBy (slice_cmp nat_cmp) (map (shown_values (names_shown show t)) others)
    → ((values : List ℕ) → Contains (map (shown_values (names_shown show t)) outcomes) values
    ↔ Contains (map (shown_values (names_shown show t)) others) values)
    → OutcomesAreAlike t (names_shown show t) outcomes others

-- of final states that are the same but for registers that no value shows, however they are listed and whichever choices stand
-- with them, what is printed differs in choices alone
abbrev pub OutcomesAreOneButForChoices : Type 0
OutcomesAreOneButForChoices =
    (show : Show) (t : Litmus) (hidden : List (List Bool)) (finals others : List FinalState) (outcomes again : List Outcome) → IsTest t
    → AreNotShown (names_shown show t) hidden
    → ((registers : List (List ℕ)) (memory : List ℕ) → Have hidden finals registers memory ↔ Have hidden others registers memory)
    → ArePrinted (names_shown show t) finals outcomes → ArePrinted (names_shown show t) others again → OutcomesAreAlike t (names_shown show t) outcomes again
