-- What `outcomes` prints of a test: its final states, those that look alike once, each with choices that lead there; in which of them
-- the condition's proposition is true; and whether the condition is as it claims.
use Rattle.std.specs.Prelude.{ℕ, ◌+◌, Bool, false, not, if◌then◌else◌, List, [], ◌∷◌, ◌++◌, map, length, count_by, All, Contains, Option, Some, None, codes}
use Rattle.std.specs.Fmt.{decimal}
use Rattle.std.specs.Ordering.{nat_cmp}
use Rattle.std.specs.Cmp.Lexicographic.{slice_cmp}
use Rattle.std.specs.List.Sorted.{IsStrictlySortedBy}
use Rattle.tso_terms.specs.Litmus.{Litmus}
use Rattle.tso_terms.specs.Condition.{Claim, Condition, truth_of}
use Rattle.tso_terms.specs.declared.choice.Choice.{Choice}
use Rattle.scheduler.specs.Printed.{printed_after}
use Rattle.explorer.specs.declared.final_states.FinalState.{FinalState}
use Rattle.tso_report.specs.Report.{line, test_line}
use Rattle.tso_report.specs.Tally.{printed_values, observed_line}
use Rattle.tso_report.specs.declared.named.Named.{Named}
use Rattle.tso_report.specs.ShownNames.{values_at}
use Rattle.search_report.specs.Verdict.{is_met, verdict_line}

-- ---- which states are printed

-- a final state: the registers of each core, the word of each location, and choices that lead there
pub record Outcome : Type 0 where
  pub registers : List (List ℕ)
  pub memory : List ℕ
  pub choices : List Choice

abbrev pub outcome_of : FinalState → Outcome
outcome_of f = record { registers = f.registers.items; memory = f.memory.items; choices = f.choices.items }

-- the values of what is shown, which has these names; two states look alike where they are the same
abbrev pub shown_values : List Named → Outcome → List ℕ
shown_values names o = values_at names o.registers o.memory

-- of the final states that look alike one: the values ascend, so none come twice; each outcome is one of the final states; and
-- the values of each final state are there
pub record ArePrinted (names : List Named) (finals : List FinalState) (outcomes : List Outcome) : Type 0 where
  pub ascending : IsStrictlySortedBy (slice_cmp nat_cmp) (map (shown_values names) outcomes)
  pub found : All (Contains (map outcome_of finals)) outcomes
  pub complete : All (λ f. Contains (map (shown_values names) outcomes) (shown_values names (outcome_of f))) finals

-- in how many of the states the claim is true, and in how many it is false
abbrev pub held_in : Claim → List Outcome → ℕ
held_in claim outcomes = count_by (λ o. truth_of o.registers o.memory claim) outcomes

abbrev pub failed_in : Claim → List Outcome → ℕ
failed_in claim outcomes = count_by (λ o. not (truth_of o.registers o.memory claim)) outcomes

-- the numbers of those in which the claim is true, where the first one has this number
abbrev pub true_from : ℕ → Claim → List Outcome → List ℕ
true_from number claim [] = []
true_from number claim (o ∷ rest) =
    if truth_of o.registers o.memory claim then number ∷ true_from (number + 1) claim rest else true_from (number + 1) claim rest

-- the same where they are numbered from 1, as their lines stand
abbrev pub true_in : Claim → List Outcome → List ℕ
true_in claim outcomes = true_from 1 claim outcomes

-- whether what the condition asks for is so in one of them
abbrev pub is_met_in : Option Condition → List Outcome → Bool
is_met_in None outcomes = false
is_met_in (Some condition) outcomes = is_met condition.quantifier (held_in condition.claim outcomes) (failed_in condition.claim outcomes)

-- ---- as lines of text

-- `Outcomes depth=32 states=4`
abbrev pub outcomes_line : ℕ → ℕ → List ℕ
outcomes_line depth states = codes "Outcomes depth=" ++ (decimal depth ++ (codes " states=" ++ line (decimal states)))

-- `State 0:EAX=v x=v ..`
abbrev pub state_line : Litmus → List Named → List ℕ → List ℕ
state_line t names values = codes "State" ++ line (printed_values t names values)

-- `By 0s 1s 0d ..`
abbrev pub by_line : List Choice → List ℕ
by_line choices = codes "By" ++ line (printed_after choices)

-- both lines of each state
abbrev pub outcome_lines : Litmus → List Named → List Outcome → List ℕ
outcome_lines t names [] = []
outcome_lines t names (o ∷ rest) = state_line t names (shown_values names o) ++ (by_line o.choices ++ outcome_lines t names rest)

-- where the test has a condition: `Observation NAME Sometimes P Q`, in how many states its proposition is true and false
abbrev pub observation_line : List ℕ → Option Condition → List Outcome → List ℕ
observation_line name None outcomes = []
observation_line name (Some condition) outcomes = observed_line name (held_in condition.claim outcomes) (failed_in condition.claim outcomes)

-- ` 1 4 7`
abbrev pub printed_numbers : List ℕ → List ℕ
printed_numbers [] = []
printed_numbers (number ∷ rest) = codes " " ++ (decimal number ++ printed_numbers rest)

-- where the test has a condition: `True 1 4 7`, the numbers from 1 of the states in which its proposition is true
abbrev pub true_line : Option Condition → List Outcome → List ℕ
true_line None outcomes = []
true_line (Some condition) outcomes = codes "True" ++ line (printed_numbers (true_in condition.claim outcomes))

-- what is said of the condition: three lines, where there is one
abbrev pub condition_lines : List ℕ → Option Condition → List Outcome → List ℕ
condition_lines name condition outcomes =
    observation_line name condition outcomes ++ (true_line condition outcomes ++ verdict_line condition (is_met_in condition outcomes))

abbrev pub outcomes_text : Litmus → List Named → ℕ → List Outcome → List ℕ
outcomes_text t names depth outcomes =
    test_line t ++ (outcomes_line depth (length outcomes) ++ (outcome_lines t names outcomes ++ condition_lines t.name t.condition outcomes))
