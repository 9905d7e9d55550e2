-- The order of sequential consistency: all of program order is kept, without the exception that TSO makes for a store and a
-- later load. (Primer, chapter 3.)
use Rattle.std.specs.Prelude.{ℕ, ◌<◌, ◌≡◌, true, List, Some, slice_get}
use Rattle.tso_terms.specs.ProgramOrder.{is_before}
use Rattle.tso_terms.specs.declared.execution.Entry.{Entry}

-- program order is kept without exception: sequential consistency's order
abbrev pub KeepsAllOrder : List Entry → Type 0
KeepsAllOrder order =
    (i j : ℕ) (x y : Entry) → slice_get order i ≡ Some x → slice_get order j ≡ Some y → is_before x y ≡ true → i < j
