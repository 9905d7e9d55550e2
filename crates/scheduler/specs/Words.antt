-- The words of a choice text, and which of them are numbers. A number may have any length and leading zeros here; which
-- ones are too great is for each item to say.
use Rattle.std.specs.Prelude.{ℕ, Bool, List, length, filter, not, ◌==◌, ◌||◌, ◌&&◌, nat_lt}
use Rattle.std.specs.Char.{is_ascii_digit}
use Rattle.std.specs.List.{slice_split, list_all}

-- white space: space, tab, carriage return and line feed
unfoldable pub is_space : ℕ → Bool
is_space byte = (byte == 32) || (byte == 9) || (byte == 13) || (byte == 10)

-- the words of a text: its longest runs without white space
abbrev pub words_of_text : List ℕ → List (List ℕ)
words_of_text text = filter (λ word. not (length word == 0)) (slice_split is_space text)

-- one digit or more, and nothing else; leading zeros are allowed
unfoldable pub is_numeral : List ℕ → Bool
is_numeral word = nat_lt 0 (length word) && list_all is_ascii_digit word
