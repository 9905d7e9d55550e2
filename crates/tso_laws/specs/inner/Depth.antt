-- The depth that an order is asked for by each of its entries: the greatest of these is what it needs.
use Rattle.std.specs.Prelude.{ℕ, if◌then◌else◌, List, length}
use Rattle.tso_terms.specs.ProgramOrder.{is_load, is_store}
use Rattle.tso_terms.specs.declared.execution.Entry.{Entry}
use Rattle.tso_laws.specs.Depth.{stores_before}

-- what one entry asks of the depth, with these after it in the order
abbrev pub asked : Entry → List Entry → ℕ
asked x back = if is_load x then length (stores_before x back) else (if is_store x then 1 else 0)
