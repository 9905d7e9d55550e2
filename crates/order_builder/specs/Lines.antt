-- The lines of a text: it may come from a system that ends them in CR LF, so one carriage return at an end is no part of a
-- line.
use Rattle.std.specs.Prelude.{ℕ, ◌==◌, Bool, not, List, [], ◌∷◌, length, if◌then◌else◌}
use Rattle.std.specs.List.{slice_split, list_all}
use Rattle.std.specs.Str.Lines.{strip_carriage_return}

-- the lines in the parts between line feeds: an empty rest is no line, and a line loses one carriage return at its end
abbrev pub lines_in : List (List ℕ) → List (List ℕ)
lines_in [] = []
lines_in (rest ∷ []) = if length rest == 0 then [] else strip_carriage_return rest ∷ []
lines_in (part ∷ next ∷ parts) = strip_carriage_return part ∷ lines_in (next ∷ parts)

abbrev pub is_line_feed : ℕ → Bool
is_line_feed b = b == 10

-- the lines of a text
unfoldable pub lines_of : List ℕ → List (List ℕ)
lines_of text = lines_in (slice_split is_line_feed text)

-- no line feed is in the line
abbrev pub is_line : List ℕ → Bool
is_line line = list_all (λ b. not (b == 10)) line
