-- When an entry is in an order: at some place of it. How often it does is for the axioms to say.
use Rattle.std.specs.Prelude.{ℕ, ◌≡◌, List, Some, slice_get}
use Rattle.tso_terms.specs.declared.execution.Entry.{Entry}

-- an entry is in an order
abbrev pub StandsIn : List Entry → Entry → Type 0
StandsIn order e = (i : ℕ) × (slice_get order i ≡ Some e)
