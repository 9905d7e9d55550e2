-- How deep a store buffer an order needs: as many places as the stores that a load passes. (This project's profile; the
-- store buffers of x86-TSO, section 3, have no bound.)
use Rattle.std.specs.Prelude.{max, ℕ, ◌&&◌, if◌then◌else◌, List, [], ◌∷◌, filter, length}
use Rattle.tso_terms.specs.ProgramOrder.{is_before, is_load, is_store}
use Rattle.tso_terms.specs.declared.execution.Entry.{Entry}

-- the plain stores of a list that come before x in its program
abbrev pub stores_before : Entry → List Entry → List Entry
stores_before x ys = filter (λ y. is_store y && is_before y x) ys

-- the greatest number of plain stores that come before one load in its program and after it in the order
abbrev pub most_passed : List Entry → ℕ
most_passed [] = 0
most_passed (x ∷ back) = max (if is_load x then length (stores_before x back) else 0) (most_passed back)

-- 1 where there is a plain store, else 0
abbrev pub one_for_stores : List Entry → ℕ
one_for_stores [] = 0
one_for_stores (x ∷ back) = if is_store x then 1 else one_for_stores back

abbrev pub needed : List Entry → ℕ
needed order = max (one_for_stores order) (most_passed order)
