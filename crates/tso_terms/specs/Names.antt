-- The names that tests and locations may have. A location named as a register or a word of conditions could be read in two
-- ways, so none is.
use Rattle.std.specs.Prelude.{ℕ, ◌==◌, ◌&&◌, ◌||◌, nat_le, Bool, false, not, List, [], ◌∷◌, length, is_some, codes}
use Rattle.std.specs.List.{list_all, list_any}
use Rattle.std.specs.Str.{bytes_eq}
use Rattle.std.specs.Char.{is_ascii_alphabetic, is_ascii_alphanumeric}
use Rattle.tso_terms.specs.Limits.{longest_name, longest_test_name}
use Rattle.tso_terms.specs.Registers.{register_named, same_letters}

-- a letter or an underscore
abbrev pub begins_name : ℕ → Bool
begins_name c = is_ascii_alphabetic c || (c == 95)

-- a letter, a digit or an underscore
abbrev pub continues_name : ℕ → Bool
continues_name c = is_ascii_alphanumeric c || (c == 95)

-- a letter or an underscore, then letters, digits and underscores, of no more bytes than a name may have
abbrev pub is_name : List ℕ → Bool
is_name [] = false
is_name (c ∷ cs) = begins_name c && list_all continues_name cs && nat_le (length (c ∷ cs)) longest_name

-- a register's name, or a stack register's, in any case of letters
abbrev pub is_register_word : List ℕ → Bool
is_register_word text = is_some (register_named text) || same_letters text (codes "ESP") || same_letters text (codes "EBP")

-- a word that conditions and their surroundings are written with
abbrev pub is_keyword : List ℕ → Bool
is_keyword text =
    bytes_eq text (codes "true") || bytes_eq text (codes "false") || bytes_eq text (codes "not")
    || bytes_eq text (codes "exists") || bytes_eq text (codes "forall") || bytes_eq text (codes "locations")

-- a name that a location may have
abbrev pub is_location_name : List ℕ → Bool
is_location_name text = is_name text && not (is_register_word text) && not (is_keyword text)

-- from space to tilde
abbrev pub is_printable : ℕ → Bool
is_printable c = nat_le 32 c && nat_le c 126

-- the last byte of a text that isn't empty
abbrev pub last_byte : ℕ → List ℕ → ℕ
last_byte c [] = c
last_byte c (d ∷ ds) = last_byte d ds

-- a name that a test may have: printable bytes, one or more, and no space at either end
abbrev pub is_test_name : List ℕ → Bool
is_test_name [] = false
is_test_name (c ∷ cs) =
    not (c == 32) && not (last_byte c cs == 32) && list_all is_printable (c ∷ cs) && nat_le (length (c ∷ cs)) longest_test_name

-- whether the name is in the list
abbrev pub is_among : List ℕ → List (List ℕ) → Bool
is_among name names = list_any (λ other. bytes_eq other name) names
