-- Words of the grammar: `exists` and its like are names to the lexer, and words only where the grammar has them.
use Rattle.std.specs.Prelude.{ℕ, Bool, false, List, Option, Some, None, if◌then◌else◌}
use Rattle.std.specs.Str.{bytes_eq}
use Rattle.litmus_tokens.specs.Terms.{Term, name}
use Rattle.litmus_reader.specs.Vocabulary.{name_at, Piece, there}

-- what comes after this word, if it is at the front
unfoldable pub word_after : List ℕ → List Piece → Option (List Piece)
word_after word ps = there (name_at ps) (λ x. if bytes_eq x.0 word then Some x.1 else None) None

-- whether a token is this word
abbrev pub is_word : List ℕ → Term → Bool
is_word word (name x) = bytes_eq x word
is_word word other = false
