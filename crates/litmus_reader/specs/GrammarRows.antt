-- Which tokens spell which row of the table: as many cells as there are cores, each of them an instruction or empty.
use Rattle.std.specs.Prelude.{◌≡◌, ℕ, List, [], ◌∷◌, ◌++◌, length, Option, Some, None}
use Rattle.litmus_reader.specs.Vocabulary.{Bar, Instructions, Semicolon, Shape, symbol, Term}
use Rattle.litmus_reader.specs.GrammarCells.{IsCell}

-- a cell: nothing, or an instruction
pub data IsField (set : Instructions) : List Term → Option Shape → Type 0 where
  empty : IsField set [] None
  full : (ts : List Term) (shape : Shape) → IsCell set ts shape → IsField set ts (Some shape)

-- cells with vertical bars between them
pub data AreFields (set : Instructions) : List Term → List (Option Shape) → Type 0 where
  last : (ts : List Term) (c : Option Shape) → IsField set ts c → AreFields set ts (c ∷ [])
  more : (ts us : List Term) (c : Option Shape) (cs : List (Option Shape)) → IsField set ts c
      → AreFields set us cs → AreFields set (ts ++ symbol Bar ∷ us) (c ∷ cs)

-- as many cells as cores, and `;`
pub data IsRow (set : Instructions) (cores : ℕ) : List Term → List (Option Shape) → Type 0 where
  row : (ts : List Term) (cells : List (Option Shape)) → AreFields set ts cells → length cells ≡ cores
      → IsRow set cores (ts ++ symbol Semicolon ∷ []) cells
