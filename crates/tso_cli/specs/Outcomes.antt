-- The answer of `outcomes`: all final states that the machine can reach, by the values that are shown; or that it can reach more states
-- than may be kept, with some of its final states.
use Rattle.std.specs.Prelude.{ℕ, Bool, List, map, All, Contains}
use Rattle.std.specs.Ordering.{nat_cmp}
use Rattle.std.specs.Cmp.Lexicographic.{slice_cmp}
use Rattle.std.specs.List.Sorted.{IsStrictlySortedBy}
use Rattle.tso_cli.specs.Vocabulary.{is_as_claimed, is_met_in, IsEnd, LeadToEnd, Litmus, Named, names_shown, Outcome, shown_values, values_at}
use Rattle.explorer.specs.FinalStates.{HasMoreStates}
use Rattle.search_report.specs.PrintedOutcomes.{outcomes_in}
use Rattle.search_report.specs.MetOutcomes.{unfinished_search_in}
use Rattle.command_line.specs.Search.{Search}
use Rattle.tso_cli.specs.declared.answer.Status.{Status}
use Rattle.tso_cli.specs.Verdicts.{status_of_verdict, status_of_met}

-- the outcomes are all final states that the machine can reach at this depth, of those that look alike one: their values at these
-- names ascend, so none come twice; the choices of each lead to it, and none of them stalls or is left over; and the values of every
-- end are there
pub record AreAllOutcomes (t : Litmus) (names : List Named) (depth : ℕ) (outcomes : List Outcome) : Type 0 where
  pub ascending : IsStrictlySortedBy (slice_cmp nat_cmp) (map (shown_values names) outcomes)
  pub reached : All (λ o. LeadToEnd t depth o.choices o.registers o.memory) outcomes
  pub complete : (registers : List (List ℕ)) (memory : List ℕ) → IsEnd t depth registers memory
      → Contains (map (shown_values names) outcomes) (values_at names registers memory)

-- the outcomes are final states that the machine can reach at this depth, of those that look alike one; which of all they are, and how
-- many, isn't said
pub record AreSomeOutcomes (t : Litmus) (names : List Named) (depth : ℕ) (outcomes : List Outcome) : Type 0 where
  pub ascending : IsStrictlySortedBy (slice_cmp nat_cmp) (map (shown_values names) outcomes)
  pub reached : All (λ o. LeadToEnd t depth o.choices o.registers o.memory) outcomes

-- whether the test's condition is as it claims of these outcomes
abbrev pub is_claimed_of : Litmus → List Outcome → Bool
is_claimed_of t outcomes = is_as_claimed t.condition (is_met_in t.condition outcomes)

-- the answer of `outcomes` to a test: which of the choices that lead to a state are printed, no clause says
pub data IsOutcomesAnswer (t : Litmus) (s : Search) (json assert : Bool) : List ℕ → Status → Type 0 where
  found : (outcomes : List Outcome) → AreAllOutcomes t (names_shown s.show t) s.depth outcomes
      → IsOutcomesAnswer t s json assert (outcomes_in json t (names_shown s.show t) s.depth outcomes)
      (status_of_verdict assert (is_claimed_of t outcomes))
  too_many : (outcomes : List Outcome) → HasMoreStates t s.depth s.states → AreSomeOutcomes t (names_shown s.show t) s.depth outcomes
      → IsOutcomesAnswer t s json assert (unfinished_search_in json t (names_shown s.show t) s.states outcomes)
      (status_of_met assert t.condition (is_met_in t.condition outcomes))
