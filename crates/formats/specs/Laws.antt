-- What a format's texts tell.
use Rattle.std.specs.Prelude.{ℕ, ◌≡◌, true, false, List, ◌++◌}
use Rattle.formats.specs.Formats.{Format, Value, text, FitsFormat}
use Rattle.serde_json.specs.Written.{has_float}
use Rattle.formats.specs.JsonData.{data_of}
use Rattle.formats.specs.Beginnings.{First, begins_so, is_clear}

-- where its texts are told apart, two of them that are the same, whatever comes after them, are of the same value, and the same comes after
abbrev pub TextsTellTheirValues : Type 0
TextsTellTheirValues =
    (f : Format) (ways : List (List First)) (x y : Value f) (rest other : List ℕ) → is_clear f ways ≡ true → FitsFormat f x → FitsFormat f y
    → begins_so ways rest ≡ true → begins_so ways other ≡ true → text f x ++ rest ≡ text f y ++ other → (x ≡ y) × (rest ≡ other)

-- as JSON data a value has no float
abbrev pub DataHasNoFloat : Type 0
DataHasNoFloat = (f : Format) (x : Value f) → has_float (data_of f x) ≡ false
