-- The two parts of an input: before and after the first line that is `====`. It is the first such line, so an input is
-- separated in one way.
use Rattle.std.specs.Prelude.{ℕ, ◌≡◌, ◌==◌, Bool, true, if◌then◌else◌, List, [], ◌∷◌, ◌++◌, drop, Option, Some, None, nat_eq, codes}
use Rattle.std.specs.List.{starts_with}

-- what is after a line feed
abbrev pub after_feed : List ℕ → Option (List ℕ)
after_feed [] = Some []
after_feed (c ∷ cs) = if c == 10 then Some cs else None

-- what is after the end of a line; the end of the text is one too, and a carriage return before it is dropped
abbrev pub after_end : List ℕ → Option (List ℕ)
after_end [] = Some []
after_end (c ∷ cs) = if c == 13 then after_feed cs else after_feed (c ∷ cs)

-- what is after the line `====`, where the text begins with it
abbrev pub after_divider : List ℕ → Option (List ℕ)
after_divider text = if starts_with nat_eq text (codes "====") then after_end (drop 4 text) else None

-- the first part and the second
pub record Parts : Type 0 where
  pub test : List ℕ
  pub rest : List ℕ

-- where a dividing line is here, nothing more is of the first part, and the rest is the second; else the parts are those of later on
abbrev pub parts_at : Option (List ℕ) → Parts → Parts
parts_at None later = later
parts_at (Some rest) later = record { test = []; rest = rest }

abbrev pub with_byte : ℕ → Parts → Parts
with_byte c p = record { test = c ∷ p.test; rest = p.rest }

-- the parts of a text that begins at the beginning of a line, or within one
abbrev pub parts_from : Bool → List ℕ → Parts
parts_from at_line [] = record { test = []; rest = [] }
parts_from at_line (c ∷ cs) =
    parts_at (if at_line then after_divider (c ∷ cs) else None) (with_byte c (parts_from (c == 10) cs))

abbrev pub parts_of : List ℕ → Parts
parts_of input = parts_from true input

-- ---- put together

-- the input of these two parts
abbrev pub joined_parts : List ℕ → List ℕ → List ℕ
joined_parts test rest = test ++ (codes "====\n" ++ rest)

-- no line of the text is `====`: the first part of it is all of it
abbrev pub HasNoDivider : List ℕ → Type 0
HasNoDivider text = (parts_of text).test ≡ text

-- the text ends in a line feed
abbrev pub EndsInFeed : List ℕ → Type 0
EndsInFeed text = (front : List ℕ) × (text ≡ front ++ 10 ∷ [])

-- such a text can be put before a dividing line and any second part
pub record IsJoinable (text : List ℕ) : Type 0 where
  pub ends : EndsInFeed text
  pub undivided : HasNoDivider text
