-- Counting the plain stores of a list, by their core and their place in its program: as the walk over an order that finds
-- the needed depth keeps them.
use Rattle.std.specs.Prelude.{ℕ, ◌≡◌, ◌<◌, ◌≤◌, ◌==◌, ◌&&◌, nat_lt, List, take, filter, length, sum, slice_index_or, []}
use Rattle.tso_terms.specs.Limits.{most_instructions}
use Rattle.tso_terms.specs.ProgramOrder.{is_store}
use Rattle.tso_terms.specs.declared.execution.Entry.{Entry}

-- how many plain stores of a core come before this place of its program
abbrev pub stores_below : ℕ → ℕ → List Entry → ℕ
stores_below core place ys = length (filter (λ y. is_store y && ((y.core.0 == core) && nat_lt y.place place)) ys)

-- the rows have for each of so many cores, and each place of its program, how many plain stores of the list
-- are there
pub record HaveCounted (cores : ℕ) (rows : List (List ℕ)) (ys : List Entry) : Type 0 where
  pub cores_are : length rows ≡ cores
  pub places_are : (core : ℕ) → core < cores → length (slice_index_or rows core []) ≡ most_instructions
  pub below : (core place : ℕ) → core < cores → place ≤ most_instructions
      → sum (take place (slice_index_or rows core [])) ≡ stores_below core place ys
