use Rattle.std.specs.List.{flat_map}
use Rattle.trace_report.specs.inner.Pieces.{trace_piece}
use Rattle.trace_report.proofs.Vocabulary.{◌≡◌, ◌++◌, drop, string_bytes}
use Rattle.trace_report.proofs.pieces.write_pieces.Given as goal

abbrev pub invariant-loop-piece : goal.invariant-loop-piece
invariant-loop-piece l =
    string_bytes l.text ++ flat_map trace_piece (drop l.piece-index l.pieces) ≡ string_bytes l.initial.text ++ flat_map trace_piece l.pieces
