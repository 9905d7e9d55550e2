-- What `outcomes` prints: every final state that TSO allows, by the values that are shown, and how to get there.
-- (Primer, chapter 4, for the axioms, and chapter 3 for sequential consistency.)
use Rattle.std.specs.Prelude.{ℕ, ◌≡◌, ◌↔◌, Bool, List, length, map, All, Contains}
use Rattle.tso_terms.specs.Limits.{most_depth}
use Rattle.tso_cli.specs.Vocabulary.{Entry, final_registers, final_words, HasMoreStates, IsTsoExecution, Litmus, Named, names_shown}
use Rattle.tso_cli.specs.Vocabulary.{Outcome, outcomes_in, printed_choices, Search, shown_values, SpellsChoices, unfinished_search_in}
use Rattle.tso_cli.specs.Vocabulary.{values_at}
use Rattle.tso_cli.specs.Outcomes.{AreAllOutcomes, AreSomeOutcomes}
use Rattle.tso_laws.specs.Outcomes.{IsSequentiallyConsistent}

-- the values that the final state of an order has at these names
abbrev pub shown_after : Litmus → List Named → List Entry → List ℕ
shown_after t names order = values_at names (final_registers t order) (final_words t order)

-- the printed values are exactly those that the final states of such orders have
abbrev pub AreExactly : Litmus → List Named → List Outcome → (List Entry → Type 0) → Type 0
AreExactly t names outcomes Allowed =
    (values : List ℕ) → Contains (map (shown_values names) outcomes) values
    ↔ ((order : List Entry) × Allowed order × (shown_after t names order ≡ values))

-- the printed values are among those
abbrev pub AreSomeOf : Litmus → List Named → List Outcome → (List Entry → Type 0) → Type 0
AreSomeOf t names outcomes Allowed =
    (values : List ℕ) → Contains (map (shown_values names) outcomes) values
    → (order : List Entry) × Allowed order × (shown_after t names order ≡ values)

-- what was printed are all final states that runs at this depth end in, by the values that are shown, each once and with choices that
-- lead there; at the greatest depth these are exactly what TSO executions leave, and at depth 0, where no core has a store buffer,
-- exactly what sequentially consistent ones leave; and the choices of each can be read again, as `run` reads them
pub record PrintsAllOutcomes (t : Litmus) (s : Search) (json : Bool) (out : List ℕ) : Type 0 where
  pub outcomes : List Outcome
  pub printed : out ≡ outcomes_in json t (names_shown s.show t) s.depth outcomes
  pub all : AreAllOutcomes t (names_shown s.show t) s.depth outcomes
  pub tso : s.depth ≡ most_depth → AreExactly t (names_shown s.show t) outcomes (IsTsoExecution t)
  pub sequential : s.depth ≡ 0 → AreExactly t (names_shown s.show t) outcomes (IsSequentiallyConsistent t)
  pub spelled : All (λ o. SpellsChoices (length t.programs) (printed_choices o.choices) o.choices) outcomes

-- what was printed are some final states that runs at this depth end in, by the values that are shown, each once and with choices that
-- lead there, after a line which says that the search met its limit; at the greatest depth TSO executions leave them, and at depth 0
-- sequentially consistent ones; and the choices of each can be read again
pub record PrintsSomeOutcomes (t : Litmus) (s : Search) (json : Bool) (out : List ℕ) : Type 0 where
  pub outcomes : List Outcome
  pub printed : out ≡ unfinished_search_in json t (names_shown s.show t) s.states outcomes
  pub some : AreSomeOutcomes t (names_shown s.show t) s.depth outcomes
  pub tso : s.depth ≡ most_depth → AreSomeOf t (names_shown s.show t) outcomes (IsTsoExecution t)
  pub sequential : s.depth ≡ 0 → AreSomeOf t (names_shown s.show t) outcomes (IsSequentiallyConsistent t)
  pub spelled : All (λ o. SpellsChoices (length t.programs) (printed_choices o.choices) o.choices) outcomes

-- all of them; or some, where the machine can reach more states than may be kept
pub data HeadlineOfOutcomes (t : Litmus) (s : Search) (json : Bool) (out : List ℕ) : Type 0 where
  all : PrintsAllOutcomes t s json out → HeadlineOfOutcomes t s json out
  too_many : HasMoreStates t s.depth s.states → PrintsSomeOutcomes t s json out → HeadlineOfOutcomes t s json out
