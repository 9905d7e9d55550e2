-- The write of its own program that an entry comes after: a load may return it while it is still pending, before memory
-- order has it.
use Rattle.std.specs.Prelude.{ℕ, ◌≡◌, ◌≤◌, ◌==◌, nat_le, true, if◌then◌else◌, List, Option, Some, None, slice_get, slice_index, slice_set}
use Rattle.tso_terms.specs.ProgramOrder.{is_before, is_write, writes_to}
use Rattle.basic_laws.specs.Ranks.{rank}
use Rattle.tso_terms.specs.declared.execution.Entry.{Entry}
use Rattle.order_breaches.specs.inner.Programs.{kept_in}

-- the latest write if it is of this core
abbrev pub own_write : ℕ → Option Entry → Option Entry
own_write core None = None
own_write core (Some w) = if w.core.0 == core then Some w else None

-- the latest writes by location, once this entry was met
abbrev pub noted_write : List (Option Entry) → Entry → List (Option Entry)
noted_write latest e = if is_write e then slice_set latest e.loc.0 (Some e) else latest

-- w is the last write to x's location that x's own program has before it
pub record IsLastOwn (made : List Entry) (x w : Entry) : Type 0 where
  pub place : ℕ
  pub stands : slice_get made place ≡ Some w
  pub before : is_before w x ≡ true
  pub writes : writes_to x.loc.0 w ≡ true
  pub last : (k : ℕ) (y : Entry) → slice_get made k ≡ Some y → is_before y x ≡ true → writes_to x.loc.0 y ≡ true → rank y ≤ rank w

-- the last write to x's location that x's own program has before it, if there is one
abbrev pub IsSource : List Entry → Entry → Option Entry → Type 0
IsSource made x None = (k : ℕ) (y : Entry) → slice_get made k ≡ Some y → is_before y x ≡ true → ¬ (writes_to x.loc.0 y ≡ true)
IsSource made x (Some w) = IsLastOwn made x w

-- the table tells of each of the programs' entries its source
abbrev pub TellsSources : List Entry → List (Option Entry) → Type 0
TellsSources made sources = (k : ℕ) (e : Entry) → slice_get made k ≡ Some e → IsSource made e (kept_in sources k)

-- the value that is due to a read, given its source: the source's where its core hasn't come as far, else the word
abbrev pub due_from : Option Entry → List ℕ → List ℕ → Entry → ℕ
due_from None settled words x = slice_index words x.loc.0
due_from (Some w) settled words x = if nat_le (slice_index settled x.core.0) (rank w) then w.value else slice_index words x.loc.0

-- the value is the one that is due to the read, by what its source is among the programs' entries
abbrev pub IsDueFrom : List Entry → List ℕ → List ℕ → Entry → ℕ → Type 0
IsDueFrom made settled words x value =
    (source : Option Entry) × IsSource made x source × (value ≡ due_from source settled words x)
