use Rattle.tso_report.proofs.Vocabulary.{◌≡◌, ◌++◌, drop, string_bytes, flat_map, line_piece}
use Rattle.tso_report.proofs.pieces.write_pieces.Given as goal

abbrev pub invariant-loop-piece : goal.invariant-loop-piece
invariant-loop-piece l =
    string_bytes l.text ++ flat_map line_piece (drop l.piece-index l.pieces) ≡ string_bytes l.initial.text ++ flat_map line_piece l.pieces
