-- The header row: `P0`, `P1`, .. separated by vertical bars and ended by `;`.
use Rattle.std.specs.Prelude.{ℕ, zero, suc, ◌+◌, List, Result, Ok, Err}
use Rattle.litmus_reader.specs.Vocabulary.{BadHeaderRow, Bar, Fault, fault, Piece, Semicolon, Stop, symbol_at, there, TooLarge, ◌>>=◌}
use Rattle.litmus_reader.specs.Faults.{or_unfit}
use Rattle.litmus_reader.specs.Places.{remaining_of, part_of}
use Rattle.litmus_reader.specs.GrammarColumns.{core_name}
use Rattle.litmus_reader.specs.Keywords.{word_after}

-- How many cores the columns from this core's on make, of which n may come.
unfoldable pub columns : Stop → ℕ → ℕ → List Piece → Result ℕ Fault
columns stop zero core ps = do
  rest ← or_unfit (part_of BadHeaderRow stop) ps (word_after (core_name core) ps)
  Err (fault TooLarge (remaining_of ps))
columns stop (suc n) core ps = do
  rest ← or_unfit (part_of BadHeaderRow stop) ps (word_after (core_name core) ps)
  there (symbol_at Bar rest) (columns stop n (core + 1)) (or_unfit (part_of BadHeaderRow stop) rest (symbol_at Semicolon rest) >>= λ _. Ok (core + 1))
