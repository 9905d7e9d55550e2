-- Which breach of the axioms is the first in an order.
-- Breaches come in the order of the variants of `Breach`, extra and twice together: the first is of the first kind that
-- occurs, and of that kind it is the earliest.
use Rattle.std.specs.Prelude.{ℕ, ◌≡◌, ◌≢◌, List, Result, OnOk, IfErr, IsOkUnless}
use Rattle.tso_terms.specs.Litmus.{Litmus}
use Rattle.tso_terms.specs.Thread.{entry}
use Rattle.tso_terms.specs.ProgramEntries.{made}
use Rattle.tso_terms.specs.Axioms.{IsWhole, KeepsProgramOrder, IsAdjacent, IsTsoExecution}
use Rattle.order_breaches.specs.First.{IsFirst, IsEarliest, IsNowhere}
use Rattle.order_breaches.specs.Entries.{IsExtra, IsStray, IsMissing, IsWrongWrite, written_value}
use Rattle.order_breaches.specs.AxiomBreaches.{Overtakes, IsLate, IsSeparated, IsWrongRead, due_at}
use Rattle.tso_terms.specs.declared.execution.Entry.{Entry}
use Rattle.order_breaches.specs.declared.breach.Breach.{Breach}
use Rattle.order_breaches.specs.declared.breach.Breach.TheVariants.{Extra, Twice, Missing, WrongValue, ProgramOrder, NotAdjacent, ReadValue, NoMemory}

-- An entry that is both extra and there twice is extra. `made` goes core by core and in program order, the load part of
-- a locked instruction before its store part, so the first of its entries that is missing is the first by core, place
-- and part. A whole order has no breach of the kinds up to a wrong value.
abbrev pub IsFirstBreach : Litmus → List Entry → Breach → Type 0
IsFirstBreach t order (Extra x) =
    IsExtra (made t order) x × IsEarliest order (IsStray (made t order) order) x
IsFirstBreach t order (Twice x) =
    ¬ IsExtra (made t order) x × IsEarliest order (IsStray (made t order) order) x
IsFirstBreach t order (Missing core place kind loc) =
    IsNowhere order (IsStray (made t order) order)
    × ((k value : ℕ) × IsFirst (made t order) (IsMissing order) k (entry core.0 place kind loc value))
IsFirstBreach t order (WrongValue x due) =
    IsNowhere order (IsStray (made t order) order) × IsNowhere (made t order) (IsMissing order)
    × IsEarliest order (IsWrongWrite (made t order)) x × (due ≡ written_value (made t order) x)
IsFirstBreach t order (ProgramOrder a b) =
    IsWhole t order × ((at j : ℕ) × IsFirst order (IsLate order) at a × IsFirst order (Overtakes at a) j b)
IsFirstBreach t order (NotAdjacent x) =
    IsWhole t order × KeepsProgramOrder order × IsEarliest order (IsSeparated order) x
IsFirstBreach t order (ReadValue x due) =
    IsWhole t order × KeepsProgramOrder order × IsAdjacent order
    × ((at : ℕ) × IsFirst order (IsWrongRead t order) at x × (due ≡ due_at t order at x))
IsFirstBreach t order NoMemory = ⊥

-- the answer is Ok of TSO executions alone, and of each of them where memory doesn't run out; else it is the first breach
pub record IsJudged {X : Type 0} (t : Litmus) (order : List Entry) (result : Result X Breach) : Type 0 where
  pub valid : OnOk result (IsTsoExecution t order)
  pub accepted : IsTsoExecution t order → IsOkUnless result NoMemory
  pub first : IfErr result (λ b. b ≢ NoMemory → IsFirstBreach t order b)
