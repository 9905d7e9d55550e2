use Rattle.litmus_reader.proofs.Vocabulary.{◌≡◌, take, Bar, piece_of, is_symbol}
use Rattle.std.proofs.Common.{count_by}
use Rattle.litmus_reader.proofs.row.cell_count.Given as goal

abbrev pub invariant-loop-token : goal.invariant-loop-token
invariant-loop-token l = l.bars ≡ count_by (λ t. is_symbol Bar (piece_of t)) (take l.token-index l.row)
