-- Which tokens spell a header row of so many cores: it alone says how many there are.
use Rattle.std.specs.Prelude.{◌≤◌, ℕ, ◌+◌, List, [], ◌∷◌}
use Rattle.litmus_reader.specs.Vocabulary.{Bar, most_cores, Semicolon}
use Rattle.litmus_tokens.specs.Terms.{Term, name, symbol}

-- `P` and the core's number, which has one digit
abbrev pub core_name : ℕ → List ℕ
core_name core = 80 ∷ (48 + core) ∷ []

-- the columns from this core's on, and how many cores there are with them
pub data AreColumns : ℕ → List Term → ℕ → Type 0 where
  -- `P3 ;`
  last : (core : ℕ) → AreColumns core (name (core_name core) ∷ symbol Semicolon ∷ []) (core + 1)
  -- `P2 |` and the columns of the cores after this one
  more : (core : ℕ) (ts : List Term) (cores : ℕ) → AreColumns (core + 1) ts cores
      → AreColumns core (name (core_name core) ∷ symbol Bar ∷ ts) cores

-- `P0`, `P1`, .. separated by vertical bars and ended by `;`
pub record IsHeaderRow (ts : List Term) (cores : ℕ) : Type 0 where
  pub columns : AreColumns 0 ts cores
  pub few : cores ≤ most_cores
