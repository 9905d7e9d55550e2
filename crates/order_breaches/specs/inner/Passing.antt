-- What the second pass over an order goes by: each action is there once, so how far each core has come is enough to
-- judge an entry.
use Rattle.std.specs.Prelude.{ℕ, ◌≡◌, ◌≢◌, true, List, length, Option, Some, None, IfSome, IsNone}
use Rattle.tso_terms.specs.Litmus.{Litmus}
use Rattle.tso_terms.specs.ProgramOrder.{is_read}
use Rattle.tso_terms.specs.declared.execution.Entry.{Entry}
use Rattle.tso_terms.specs.ProgramEntries.{made}
use Rattle.tso_terms.specs.Axioms.{IsWhole, KeepsProgramOrder}
use Rattle.order_breaches.specs.First.{NoneBefore, IsFirst, IsEarliest}
use Rattle.order_breaches.specs.Entries.{IsWrongWrite, written_value}
use Rattle.order_breaches.specs.AxiomBreaches.{IsLate, IsSeparated, IsWrongRead, due_at}
use Rattle.order_breaches.specs.inner.Sources.{IsDueFrom}
use Rattle.order_breaches.specs.declared.met.Met.{Met}

-- the first of the two that is there
abbrev pub first_of_two : {X : Type 0} → Option X → Option X → Option X
first_of_two None later = later
first_of_two (Some x) later = Some x

-- it is x, a write of another value than its program's, and with it that value
abbrev pub NamesWrongWrite : List Entry → Entry → Entry × ℕ → Type 0
NamesWrongWrite made x named = (named.0 ≡ x) × IsWrongWrite made 0 x × (named.1 ≡ written_value made x)

-- it is x, a read of another value than is due, and with it that value
abbrev pub NamesWrongRead : List Entry → List ℕ → List ℕ → Entry → Entry × ℕ → Type 0
NamesWrongRead made settled words x named =
    (named.0 ≡ x) × (is_read x ≡ true) × (x.value ≢ named.1) × IsDueFrom made settled words x named.1

-- it is the earliest write of another value than its program's, and with it that value
abbrev pub IsFirstWrongWrite : Litmus → List Entry → Entry × ℕ → Type 0
IsFirstWrongWrite t order named =
    IsEarliest order (IsWrongWrite (made t order)) named.0 × (named.1 ≡ written_value (made t order) named.0)

-- it is the earliest read of another value than is due, and with it that value
abbrev pub IsFirstWrongRead : Litmus → List Entry → Entry × ℕ → Type 0
IsFirstWrongRead t order named =
    (at : ℕ) × IsFirst order (IsWrongRead t order) at named.0 × (named.1 ≡ due_at t order at named.0)

-- what was found is named so; where nothing was, the fact holds of no entry before this place
pub record IsFound {X : Type 0} (list : List Entry) (Fact : ℕ → Entry → Type 0) (at : ℕ) (Names : X → Type 0) (found : Option X) : Type 0 where
  pub named : IfSome found Names
  pub none : IsNone found → NoneBefore list Fact at

-- of each kind of breach the first was met, if one is before this place; a read's only where the order is whole and keeps program order
pub record HasMet (t : Litmus) (order : List Entry) (at : ℕ) (met : Met) : Type 0 where
  pub wrong_write : IsFound order (IsWrongWrite (made t order)) at (IsFirstWrongWrite t order) met.wrong_write
  pub late : IsFound order (IsLate order) at (λ a. IsFirst order (IsLate order) a.0 a.1) met.late
  pub separated : IsFound order (IsSeparated order) at (IsEarliest order (IsSeparated order)) met.separated
  pub wrong_read : IsWhole t order → KeepsProgramOrder order → IsFound order (IsWrongRead t order) at (IsFirstWrongRead t order) met.wrong_read

-- it met these in the whole order, whatever test with these first words the entries were made for
abbrev pub HasMetFor : List ℕ → List Entry → List Entry → Met → Type 0
HasMetFor words entries order met = (t : Litmus) → t.words ≡ words → entries ≡ made t order → HasMet t order (length order) met
