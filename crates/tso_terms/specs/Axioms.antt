-- The axioms of TSO: when an order of entries is an execution of a test.
-- (Primer, chapter 4, the axioms of TSO; x86-TSO, section 3, for fences and locked instructions.)
use Rattle.std.specs.Prelude.{ℕ, ◌<◌, ◌≡◌, true, false, List, [], ◌∷◌, ◌++◌, filter, length, Some, slice_get, slice_index, suc}
use Rattle.tso_terms.specs.ProgramOrder.{is_before, may_be_passed, is_read, writes_to, IsStorePart}
use Rattle.tso_terms.specs.Litmus.{Litmus}
use Rattle.tso_terms.specs.declared.execution.Entry.{Entry}
use Rattle.tso_terms.specs.declared.execution.Kind.TheVariants.{LR}
use Rattle.tso_terms.specs.ProgramEntries.{made}

-- each entry of the programs is in the order, and the order has no more entries than they have.
-- Entries of the programs differ from each other, so each is there once and no other does.
pub record IsWhole (t : Litmus) (order : List Entry) : Type 0 where
  pub count : length order ≡ length (made t order)
  pub each : (k : ℕ) (e : Entry) → slice_get (made t order) k ≡ Some e → (i : ℕ) × (slice_get order i ≡ Some e)

-- program order is kept, but a plain store may be passed by a later plain load
abbrev pub KeepsProgramOrder : List Entry → Type 0
KeepsProgramOrder order =
    (i j : ℕ) (x y : Entry) → slice_get order i ≡ Some x → slice_get order j ≡ Some y
    → is_before x y ≡ true → may_be_passed x y ≡ false → i < j

-- the load part of a locked instruction is followed at once by its store part
abbrev pub IsAdjacent : List Entry → Type 0
IsAdjacent order =
    (i : ℕ) (x : Entry) → slice_get order i ≡ Some x → x.kind ≡ LR
    → (y : Entry) × (slice_get order (suc i) ≡ Some y) × IsStorePart x y

-- the writes that count for a read x, as they are in the order: those to its location that are before it in the
-- order (front), or after it (back) but before it in its program
abbrev pub counting : Entry → List Entry → List Entry → List Entry
counting x front back = filter (writes_to x.loc.0) (front ++ filter (λ e. is_before e x) back)

-- the value of the last of these writes, or the word where there is none
abbrev pub last_value : List Entry → ℕ → ℕ
last_value [] word = word
last_value (e ∷ es) word = last_value es e.value

-- the value that is due to a read x with `front` before it in the order and `back` after it
abbrev pub due_value : Litmus → Entry → List Entry → List Entry → ℕ
due_value t x front back = last_value (counting x front back) (slice_index t.words x.loc.0)

-- each read has the value of the last write that counts for it, else the initial word
abbrev pub HasReadValues : Litmus → List Entry → Type 0
HasReadValues t order =
    (front : List Entry) (x : Entry) (back : List Entry) → order ≡ front ++ (x ∷ back) → is_read x ≡ true
    → x.value ≡ due_value t x front back

pub record IsTsoExecution (t : Litmus) (order : List Entry) : Type 0 where
  pub whole : IsWhole t order
  pub program_order : KeepsProgramOrder order
  pub adjacent : IsAdjacent order
  pub read_values : HasReadValues t order
