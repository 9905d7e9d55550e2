-- The earliest entry of a list of which something holds: of several breaches one is told, and everyone must agree on which.
use Rattle.std.specs.Prelude.{ℕ, ◌<◌, ◌≡◌, List, Some, slice_get}
use Rattle.tso_terms.specs.declared.execution.Entry.{Entry}

-- the fact holds of no entry before this place
abbrev pub NoneBefore : List Entry → (ℕ → Entry → Type 0) → ℕ → Type 0
NoneBefore list Fact at = (k : ℕ) (y : Entry) → k < at → slice_get list k ≡ Some y → ¬ Fact k y

-- x is at this place of the list, the fact holds of it there, and of no entry before it
pub record IsFirst (list : List Entry) (Fact : ℕ → Entry → Type 0) (at : ℕ) (x : Entry) : Type 0 where
  pub stands : slice_get list at ≡ Some x
  pub holds : Fact at x
  pub earliest : NoneBefore list Fact at

-- x is the earliest entry of the list of which the fact holds
abbrev pub IsEarliest : List Entry → (ℕ → Entry → Type 0) → Entry → Type 0
IsEarliest list Fact x = (at : ℕ) × IsFirst list Fact at x

-- the fact holds of no entry of the list, whatever its place
abbrev pub IsNowhere : List Entry → (ℕ → Entry → Type 0) → Type 0
IsNowhere list Fact = (k : ℕ) (y : Entry) → slice_get list k ≡ Some y → ¬ Fact k y
