-- The ways in which an entry breaks an axiom at its place in the order.
-- (Primer, chapter 4, the axioms of TSO; x86-TSO, section 3, for locked instructions.)
use Rattle.std.specs.Prelude.{ℕ, ◌<◌, ◌≡◌, ◌≢◌, ◌&&◌, not, Bool, true, List, Some, slice_get, take, drop, suc}
use Rattle.tso_terms.specs.Litmus.{Litmus}
use Rattle.tso_terms.specs.ProgramOrder.{is_before, may_be_passed, is_read, IsStorePart}
use Rattle.tso_terms.specs.Axioms.{due_value}
use Rattle.basic_laws.specs.Types.{Entry, LR}

-- a comes before b in their program, and the axioms keep the two in order: a plain load alone may pass a plain store
abbrev pub must_stand_before : Entry → Entry → Bool
must_stand_before a b = is_before a b && not (may_be_passed a b)

-- b, at place j, comes before the place `at` of a, though a must come before it
pub record Overtakes (at : ℕ) (a : Entry) (j : ℕ) (b : Entry) : Type 0 where
  pub sooner : j < at
  pub swapped : must_stand_before a b ≡ true

-- some entry overtook a
abbrev pub IsLate : List Entry → ℕ → Entry → Type 0
IsLate order at a = (j : ℕ) × (b : Entry) × (slice_get order j ≡ Some b) × Overtakes at a j b

-- the load part of a locked instruction that isn't followed at once by its store part
pub record IsSeparated (order : List Entry) (at : ℕ) (x : Entry) : Type 0 where
  pub load_part : x.kind ≡ LR
  pub separated : (y : Entry) → slice_get order (suc at) ≡ Some y → ¬ IsStorePart x y

-- the value that is due to a read at its place: what comes before it there, and what comes after it
abbrev pub due_at : Litmus → List Entry → ℕ → Entry → ℕ
due_at t order at x = due_value t x (take at order) (drop (suc at) order)

-- a read of another value than is due
pub record IsWrongRead (t : Litmus) (order : List Entry) (at : ℕ) (x : Entry) : Type 0 where
  pub read : is_read x ≡ true
  pub wrong : x.value ≢ due_at t order at x
