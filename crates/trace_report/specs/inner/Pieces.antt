-- What a piece is in a line of a trace.
use Rattle.std.specs.Prelude.{ℕ, List}
use Rattle.std.specs.Fmt.{decimal}
use Rattle.trace_report.specs.declared.pieces.LinePart.{LinePart}
use Rattle.trace_report.specs.declared.pieces.LinePart.TheVariants as pieces

abbrev pub trace_piece : LinePart → List ℕ
trace_piece (pieces.Word word) = word.now
trace_piece (pieces.Number n) = decimal n
