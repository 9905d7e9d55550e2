-- The instructions of rows as one list, each with its core: so they are read.
use Rattle.litmus_reader.proofs.Vocabulary.{count_by, most_instructions, most_locations, CoreInstr, of_core, numbered, location_in}
use Rattle.litmus_reader.proofs.Vocabulary.{instr_with, ValueFits, Shape}
use Rattle.std.specs.Prelude.{◌≤◌, ℕ, ◌+◌, List, [], ◌∷◌, ◌++◌, length, map, Option, Some, None, ◌==◌}

-- an instruction in a core's column, with the name of its location
pub record Placed : Type 0 where
  pub core : ℕ
  pub shape : Shape

abbrev pub placed : ℕ → Shape → Placed
placed core shape = record { core = core; shape = shape }

-- those of a row's cells, from this core's on
abbrev pub placed_from : ℕ → List (Option Shape) → List Placed
placed_from core [] = []
placed_from core (None ∷ cells) = placed_from (core + 1) cells
placed_from core (Some shape ∷ cells) = placed core shape ∷ placed_from (core + 1) cells

-- those of all rows, from the first row down
abbrev pub placed_in : List (List (Option Shape)) → List Placed
placed_in [] = []
placed_in (row ∷ others) = placed_from 0 row ++ placed_in others

-- the locations that all name, in their order
abbrev pub locations_of : List Placed → List (List ℕ)
locations_of [] = []
locations_of (e ∷ others) = location_in e.shape ++ locations_of others

-- all instructions, each with its core
abbrev pub instrs_with : List (List ℕ) → List Placed → List CoreInstr
instrs_with names entries = map (λ e. of_core e.core (instr_with names e.shape)) entries

abbrev pub ValuesFit : List Placed → Type 0
ValuesFit [] = Unit {0}
ValuesFit (e ∷ others) = ValueFits e.shape × ValuesFit others

-- after what named these locations, entries are within the limits of a test
pub record EntriesWithin (names : List (List ℕ)) (entries : List Placed) : Type 0 where
  pub values : ValuesFit entries
  pub few : (core : ℕ) → count_by (λ e. e.core == core) entries ≤ most_instructions
  pub room : length (numbered names (locations_of entries)) ≤ most_locations
