-- The columns of the header row, by the number of their core.
use Rattle.litmus_reader.proofs.Vocabulary.{◌≡◌, ℕ, suc, zero, ◌+◌, ◌-◌, ◌≤◌, ◌<◌, List, Ok, Err, arith, most_cores, Stop, Semicolon, Bar}
use Rattle.litmus_reader.proofs.Vocabulary.{Piece, symbol_at, TooLarge, ◌>>=◌, there, or_unfit, columns, fault, remaining_of, part_of}
use Rattle.litmus_reader.proofs.Vocabulary.{BadHeaderRow, word_after, core_name}

pub columns_next : (stop : Stop) (core : ℕ) (ps : List Piece) → core < most_cores → columns stop (most_cores - core) core ps ≡
    (or_unfit (part_of BadHeaderRow stop) ps (word_after (core_name core) ps) >>= λ rest.
    there (symbol_at Bar rest) (columns stop (most_cores - (core + 1)) (core + 1))
    (or_unfit (part_of BadHeaderRow stop) rest (symbol_at Semicolon rest) >>= λ _. Ok (core + 1)))
unfolding columns
columns_next stop core ps lt = let e : most_cores - core ≡ suc (most_cores - (core + 1)) = omega arith in rw e

pub columns_last : (stop : Stop) (core : ℕ) (ps : List Piece) → most_cores ≤ core → columns stop (most_cores - core) core ps ≡
    (or_unfit (part_of BadHeaderRow stop) ps (word_after (core_name core) ps) >>= λ rest. Err (fault TooLarge (remaining_of ps)))
unfolding columns
columns_last stop core ps le = let e : most_cores - core ≡ zero = omega arith in rw e
