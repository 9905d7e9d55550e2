-- The ways in which an order doesn't hold each entry of the programs exactly once, with the value that the program
-- gives it. Each speaks of `made`: what the programs make with the order's own read values,
-- core by core and in program order.
use Rattle.std.specs.Prelude.{ℕ, ◌<◌, ◌≡◌, ◌≢◌, ◌==◌, ◌&&◌, ◌||◌, Bool, true, false, ◌⊎◌, List, Some, slice_get}
use Rattle.tso_terms.specs.ProgramOrder.{is_read, is_write}
use Rattle.tso_terms.specs.ProgramEntries.{is_at, read_value}
use Rattle.tso_terms.specs.declared.execution.Entry.{Entry}

-- both are of one core, place and kind
abbrev pub same_action : Entry → Entry → Bool
same_action x y = is_at x.core.0 x.place x.kind y

-- e and x differ at most in the value that they read or write; a fence does neither, so its value counts too
abbrev pub same_but_value : Entry → Entry → Bool
same_but_value e x = same_action e x && (x.loc.0 == e.loc.0) && (is_read x || is_write x || (x.value == e.value))

-- no program has this core, place, kind and location. The programs' fences have location 0 and value 0, so any other
-- fence is extra too
abbrev pub IsExtra : List Entry → Entry → Type 0
IsExtra made x = (k : ℕ) (e : Entry) → slice_get made k ≡ Some e → same_but_value e x ≡ false

-- an entry of this core, place and kind stood before
abbrev pub IsTwice : List Entry → ℕ → Entry → Type 0
IsTwice order at x = (j : ℕ) × (y : Entry) × (j < at) × (slice_get order j ≡ Some y) × (same_action x y ≡ true)

-- extra, or there twice
abbrev pub IsStray : List Entry → List Entry → ℕ → Entry → Type 0
IsStray made order at x = IsExtra made x ⊎ IsTwice order at x

-- the order has no entry of this core, place and kind
abbrev pub IsMissing : List Entry → ℕ → Entry → Type 0
IsMissing order _ e = (i : ℕ) (x : Entry) → slice_get order i ≡ Some x → same_action e x ≡ false

-- the value that the program gives a write: that of its own entry of this core, place and kind
abbrev pub written_value : List Entry → Entry → ℕ
written_value made x = read_value x.core.0 x.place x.kind made

-- a write of another value than its program gives it
abbrev pub IsWrongWrite : List Entry → ℕ → Entry → Type 0
IsWrongWrite made at x = (is_write x ≡ true) × (x.value ≢ written_value made x)
