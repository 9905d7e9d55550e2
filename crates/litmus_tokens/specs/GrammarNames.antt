-- The numbering of locations: by first appearance. Programs and conditions have locations by number; their names are kept
-- beside them.
use Rattle.std.specs.Prelude.{ℕ, List, [], ◌∷◌, ◌++◌, if◌then◌else◌}
use Rattle.std.specs.List.{position_or_len, list_any}
use Rattle.std.specs.Str.{bytes_eq}
use Rattle.tso_terms.specs.declared.instruction.Loc.{Loc}

-- the number of a name: its place among the names so far, or the next
abbrev pub number_of : List (List ℕ) → List ℕ → ℕ
number_of names x = position_or_len (bytes_eq x) names

-- the names, with this one after them where it is new
abbrev pub with_name : List (List ℕ) → List ℕ → List (List ℕ)
with_name names x = if list_any (bytes_eq x) names then names else names ++ x ∷ []

abbrev pub location : ℕ → Loc
location n = record { 0 = n }

-- these names after those that appeared before, each where it first appears
unfoldable pub numbered : List (List ℕ) → List (List ℕ) → List (List ℕ)
numbered known [] = known
numbered known (x ∷ xs) = numbered (with_name known x) xs
