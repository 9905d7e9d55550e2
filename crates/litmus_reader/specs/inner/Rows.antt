-- The header row and the rows, as they are read.
use Rattle.std.specs.Prelude.{ℕ, List, [], length, Result}
use Rattle.litmus_reader.specs.Vocabulary.{CoreInstr, Fault, Instructions, Piece, Stop}
use Rattle.litmus_reader.specs.Rows.{Rows, rows_within, Table}

abbrev pub rows : List CoreInstr → List (List ℕ) → List Piece → Rows
rows instrs names rest = record { instrs = instrs; names = names; rest = rest }

-- all rows
abbrev pub rows_at : Instructions → Stop → ℕ → List (List ℕ) → List Piece → Result Rows Fault
rows_at set stop cores names ps = rows_within set (length ps) stop cores [] names ps

abbrev pub table : ℕ → List (List ℕ) → Rows → Table
table cores registers r = record { cores = cores; registers = registers; rows = r }
