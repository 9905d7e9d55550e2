-- The cells of a row, read from left to right: in this order names get their numbers, and the first fault is found.
use Rattle.std.specs.Prelude.{ℕ, List, [], Option, Some, None, Result}
use Rattle.litmus_reader.specs.Vocabulary.{CoreInstr, Fault, Instructions, Piece, pieces, Token}
use denote.Ref.{Bor}
use Rattle.litmus_reader.specs.Cells.{cells_in, cells_of}

-- the cells after a bar, if there is one
abbrev pub cells_after : Option (Bor (List Token)) → List (List Piece)
cells_after None = []
cells_after (Some after) = cells_of (pieces after.now)

-- all cells of a row
abbrev pub row_cells : Instructions → List CoreInstr → List (List ℕ) → List Piece → Result (List CoreInstr × List (List ℕ)) Fault
row_cells set instrs names row = cells_in set 0 instrs names (cells_of row)
