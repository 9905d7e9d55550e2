-- The cells of a row, read from left to right: in this order names get their numbers, and the first fault is found.
use Rattle.std.specs.Prelude.{ℕ, ◌+◌, List, [], ◌∷◌, Result, Ok}
use Rattle.litmus_reader.specs.Vocabulary.{Bar, CoreInstr, Fault, Instructions, is_symbol, Piece, ◌>>=◌}
use Rattle.litmus_cells.specs.Cells.{cell_in}
use Rattle.std.specs.List.{slice_split}

-- the cells of a row: what comes between its bars
abbrev pub cells_of : List Piece → List (List Piece)
cells_of row = slice_split (is_symbol Bar) row

-- the cells of a row from this core on
unfoldable pub cells_in : Instructions → ℕ → List CoreInstr → List (List ℕ) → List (List Piece) → Result (List CoreInstr × List (List ℕ)) Fault
cells_in set core instrs names [] = Ok (instrs, names)
cells_in set core instrs names (c ∷ cs) = do
  read ← cell_in set core instrs names c
  cells_in set (core + 1) read.0 read.1 cs
