-- The rows of the table: the number of cells is judged before any cell is read, so that a missing bar is refused as such.
use Rattle.std.specs.Prelude.{ℕ, zero, suc, List, [], ◌∷◌, length, Result, Ok, Err, nat_lt, ◌==◌, if◌then◌else◌}
use Rattle.std.specs.List.{position_or_len, before_first}
use Rattle.litmus_reader.specs.Vocabulary.{CoreInstr, Fault, fault, Instructions, is_symbol, most_cores, Piece, Semicolon, Stop, Unclosed, WrongCells, ◌>>=◌}
use Rattle.litmus_reader.specs.Initial.{Given, registers_of}
use Rattle.litmus_reader.specs.Columns.{columns}
use Rattle.litmus_reader.specs.Cells.{cells_of, cells_in}
use Rattle.litmus_reader.specs.Places.{at_stop, remaining_of}
use Rattle.litmus_reader.specs.Sections.{section_of}
use Rattle.litmus_reader.specs.GrammarTable.{ends_rows}

-- a row without its `;`; one that has none is unclosed
unfoldable pub row_at : Stop → List Piece → Result (List Piece) Fault
row_at stop ps =
    if nat_lt (position_or_len (is_symbol Semicolon) ps) (length ps) then Ok (before_first (is_symbol Semicolon) ps)
    else Err (at_stop (fault Unclosed (remaining_of ps)) stop)

-- a row's cells: first counted, for a row of any other number is refused at its first token, and then read from left to right
unfoldable pub row_in : Instructions → ℕ → Stop → List CoreInstr → List (List ℕ) → List Piece → Result (List CoreInstr × List (List ℕ)) Fault
row_in set cores stop instrs names ps =
    row_at stop ps >>= λ row.
    if length (cells_of row) == cores then cells_in set 0 instrs names (cells_of row) else Err (fault WrongCells (remaining_of ps))

-- what all rows give: the instructions, the names of locations, and what comes after the rows
pub record Rows : Type 0 where
  pub instrs : List CoreInstr
  pub names : List (List ℕ)
  pub rest : List Piece

-- at most n rows; a row takes a token or more
unfoldable pub rows_within : Instructions → ℕ → Stop → ℕ → List CoreInstr → List (List ℕ) → List Piece → Result Rows Fault
rows_within set zero stop cores instrs names ps = Ok (record { instrs = instrs; names = names; rest = ps })
rows_within set (suc n) stop cores instrs names ps =
    if ends_rows ps then Ok (record { instrs = instrs; names = names; rest = ps })
    else (let section = section_of (Semicolon ∷ []) stop ps in
    row_in set cores section.stop instrs names section.tokens >>= λ read. rows_within set n stop cores read.0 read.1 section.rest)

-- the header row and the rows: how many cores there are, their first registers, and what the rows give
pub record Table : Type 0 where
  pub cores : ℕ
  pub registers : List (List ℕ)
  pub rows : Rows

-- the header row, at whose end each core of the initial state has to be there, and then the rows
unfoldable pub table_at : Instructions → Stop → List Given → List (List ℕ) → List Piece → Result Table Fault
table_at set stop given names ps =
    let header = section_of (Semicolon ∷ []) stop ps in
    columns header.stop most_cores 0 header.tokens >>= λ cores.
    registers_of cores given >>= λ registers.
    rows_within set (length header.rest) stop cores [] names header.rest >>= λ rows.
    Ok (record { cores = cores; registers = registers; rows = rows })
