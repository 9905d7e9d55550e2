-- What a piece is in a line of text.
use Rattle.std.specs.Prelude.{ℕ, List}
use Rattle.std.specs.Fmt.{decimal}
use Rattle.tso_report.specs.Report.{printed_truth}
use Rattle.tso_report.specs.declared.pieces.Piece.{Piece}
use Rattle.tso_report.specs.declared.pieces.Piece.TheVariants as pieces

abbrev pub line_piece : Piece → List ℕ
line_piece (pieces.Text text) = text.now
line_piece (pieces.Number n) = decimal n
line_piece (pieces.Truth truth) = printed_truth truth
