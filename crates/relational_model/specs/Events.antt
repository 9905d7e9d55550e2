-- Events in lists, and relations between events: the vocabulary of herd's models, with no order over all events.
use Rattle.std.specs.Prelude.{ℕ, ◌<◌, ◌≡◌, List, Some, slice_get}
use Rattle.tso_terms.specs.declared.execution.Entry.{Entry}

-- x is in this list
abbrev pub IsIn : List Entry → Entry → Type 0
IsIn xs x = (i : ℕ) × (slice_get xs i ≡ Some x)

-- x comes before y in it
pub record IsEarlier (xs : List Entry) (x y : Entry) : Type 0 where
  pub first : ℕ
  pub second : ℕ
  pub is_first : slice_get xs first ≡ Some x
  pub is_second : slice_get xs second ≡ Some y
  pub before : first < second

-- the transitive closure of a relation over these events
pub data LeadsTo (events : List Entry) (Before : Entry → Entry → Type 0) : Entry → Entry → Type 0 where
  at_once : (x y : Entry) → IsIn events x → IsIn events y → Before x y → LeadsTo events Before x y
  onward : (x y z : Entry) → IsIn events x → Before x y → LeadsTo events Before y z → LeadsTo events Before x z

-- no event leads back to itself
abbrev pub IsAcyclic : List Entry → (Entry → Entry → Type 0) → Type 0
IsAcyclic events Before = (x : Entry) → LeadsTo events Before x x → ⊥
