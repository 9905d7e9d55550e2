-- How the checker finds the program's entry of an entry of the order: no two have one slot, so one look in a table is
-- enough.
use Rattle.std.specs.Prelude.{ℕ, ◌+◌, ◌*◌, ◌<◌, ◌≡◌, ◌⊎◌, true, List, Option, Some, None, slice_get}
use Rattle.tso_terms.specs.Limits.{most_instructions}
use Rattle.tso_terms.specs.ProgramOrder.{is_write}
use Rattle.basic_laws.specs.Ranks.{rank}
use Rattle.tso_terms.specs.declared.execution.Entry.{Entry}
use Rattle.order_breaches.specs.First.{IsEarliest}
use Rattle.order_breaches.specs.Entries.{same_action, same_but_value, IsExtra, IsStray}
use Rattle.order_breaches.specs.declared.breach.Breach.{Breach}
use Rattle.order_breaches.specs.declared.breach.Breach.TheVariants.{Extra, Twice}
use Rattle.order_breaches.specs.inner.Programs.{kept_in}

-- two slots for each place that a program may have
abbrev pub slots_of_a_core : ℕ
slots_of_a_core = 2 * most_instructions

abbrev pub slot_of : Entry → ℕ
slot_of e = e.core.0 * slots_of_a_core + rank e

-- d comes before e among the entries of the programs: its core is an earlier one, or the same and its rank is smaller
abbrev pub Precedes : Entry → Entry → Type 0
Precedes d e = (d.core.0 < e.core.0) ⊎ ((d.core.0 ≡ e.core.0) × (rank d < rank e))

-- each entry of the list precedes those after it
abbrev pub Ascends : List Entry → Type 0
Ascends list = (j k : ℕ) (d e : Entry) → j < k → slice_get list j ≡ Some d → slice_get list k ≡ Some e → Precedes d e

-- an entry of a test with so many cores and locations
pub record IsEntryWithin (cores locations : ℕ) (e : Entry) : Type 0 where
  pub core : e.core.0 < cores
  pub fits : rank e < slots_of_a_core
  pub known : is_write e ≡ true → e.loc.0 < locations

abbrev pub EntriesAreWithin : ℕ → ℕ → List Entry → Type 0
EntriesAreWithin cores locations list = (k : ℕ) (e : Entry) → slice_get list k ≡ Some e → IsEntryWithin cores locations e

-- the table tells of each slot where in the list its entry stands
pub record IsIndex (list : List Entry) (slots : List (Option ℕ)) : Type 0 where
  pub has : (k : ℕ) (e : Entry) → slice_get list k ≡ Some e → kept_in slots (slot_of e) ≡ Some k
  pub only : (s k : ℕ) → kept_in slots s ≡ Some k → (e : Entry) × (slice_get list k ≡ Some e)

-- the first `at` entries of the order came, each one of the programs' but for its value, and the table tells with which
-- value each of the programs' came
pub record HasCome (shape order : List Entry) (at : ℕ) (came : List (Option ℕ)) : Type 0 where
  pub has : (k : ℕ) (x : Entry) → k < at → slice_get order k ≡ Some x
      → (i : ℕ) × (e : Entry) × (slice_get shape i ≡ Some e) × (same_but_value e x ≡ true) × (kept_in came i ≡ Some x.value)
  pub only : (i value : ℕ) → kept_in came i ≡ Some value
      → (k : ℕ) × (x e : Entry) × (k < at) × (slice_get order k ≡ Some x) × (slice_get shape i ≡ Some e)
      × (same_action e x ≡ true) × (x.value ≡ value)

-- an entry of the programs that didn't come
abbrev pub HasNotCome : List (Option ℕ) → ℕ → Entry → Type 0
HasNotCome came i e = kept_in came i ≡ None

-- the breach names the earliest entry of the order that is extra or comes twice
abbrev pub NamesStray : List Entry → List Entry → Breach → Type 0
NamesStray shape order (Extra x) = IsExtra shape x × IsEarliest order (IsStray shape order) x
NamesStray shape order (Twice x) = ¬ IsExtra shape x × IsEarliest order (IsStray shape order) x
NamesStray shape order _ = ⊥
