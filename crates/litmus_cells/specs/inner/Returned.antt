-- What the functions that read cells return: what a reading gives, unless memory ran out.
use Rattle.std.specs.Prelude.{ℕ, List, Result}
use denote.Ref.{Bor}
use Rattle.litmus_tokens.specs.declared.token.Token.{Token}
use Rattle.litmus_tokens.specs.Pieces.{Piece}
use Rattle.litmus_tokens.specs.inner.Pieces.{pieces}
use Rattle.litmus_cells.specs.declared.cell.CoreInstr.{CoreInstr}
use Rattle.litmus_tokens.specs.declared.fault.Fault.{Fault}
use Rattle.litmus_tokens.specs.declared.fault.ReadError.{ReadError}
use Rattle.litmus_tokens.specs.Faults.{Gives}
use Rattle.litmus_tokens.specs.Locations.{texts}

-- a reading of cells, after these instructions and names of locations
abbrev pub ReadsCells : Type 0
ReadsCells = List CoreInstr → List (List ℕ) → List Piece → Result (List CoreInstr × List (List ℕ)) Fault

-- The reading of these tokens, after some instructions and names of locations, gives those at the end.
abbrev pub GivesCells : {X : Type 0} → ReadsCells → List CoreInstr → List (Bor (List ℕ)) → List Token → Result X ReadError
    → List CoreInstr → List (Bor (List ℕ)) → Type 0
GivesCells reading old names tokens result new names_new =
    Gives (λ _. (new, texts names_new)) result (reading old (texts names) (pieces tokens))
