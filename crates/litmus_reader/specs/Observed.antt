-- `locations [..]`, which is read and has no effect: any bytes may be in the brackets, so tokens begin anew after them.
use Rattle.std.specs.Prelude.{ℕ, zero, suc, List, [], ◌∷◌, length, codes, None, Result, Ok, Err, ◌==◌, if◌then◌else◌}
use Rattle.litmus_reader.specs.Vocabulary.{BadToken, Fault, fault, gap_end, Instructions, OpenSquare, Piece, pieces_of, Stop, symbol_at, there, Unclosed, ◌>>=◌}
use Rattle.litmus_reader.specs.Faults.{or_unfit}
use Rattle.litmus_reader.specs.Header.{from_gap}
use Rattle.litmus_reader.specs.Keywords.{word_after}
use Rattle.litmus_reader.specs.Places.{remaining_of, from_place, part_of}

-- the first byte: the `]`, or one that is passed over; where there is none, the `[` at `remaining` is unclosed
abbrev pub square_by : (List ℕ → Result (List ℕ) Fault) → ℕ → List ℕ → Result (List ℕ) Fault
square_by further remaining [] = Err (fault Unclosed remaining)
square_by further remaining (b ∷ bs) = if b == 93 then Ok bs else further bs

-- what comes after the next `]`, over fewer than n bytes; comments are passed over
unfoldable pub square_within : ℕ → ℕ → List ℕ → Result (List ℕ) Fault
square_within zero remaining bytes = Err (fault Unclosed remaining)
square_within (suc n) remaining bytes = from_gap (gap_end None bytes) >>= λ at. square_by (square_within n remaining) remaining at

-- what comes after the next `]`
unfoldable pub square_end : ℕ → List ℕ → Result (List ℕ) Fault
square_end remaining bytes = square_within (suc (length bytes)) remaining bytes

-- what comes after the brackets that have to begin after the word, any bytes being allowed in them
unfoldable pub brackets_end : List ℕ → Stop → List Piece → Result (List ℕ) Fault
brackets_end text stop ps = do
  inside ← or_unfit (part_of BadToken stop) ps (symbol_at OpenSquare ps)
  square_end (remaining_of ps) (from_place text (remaining_of ps))

-- the tokens after `locations [..]`, if it is here, and else those from here on
unfoldable pub ending_tokens : Instructions → List ℕ → Stop → List Piece → Result (List Piece × Stop) Fault
ending_tokens set text stop ps =
    there (word_after (codes "locations") ps) (λ rest. brackets_end text stop rest >>= λ bytes. Ok (pieces_of set bytes)) (Ok (ps, stop))
