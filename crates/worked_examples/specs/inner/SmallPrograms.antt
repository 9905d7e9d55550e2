-- The examples of one choice of one core.
use Rattle.std.specs.Prelude.{ℕ, List, [], ◌∷◌}
use Rattle.worked_examples.specs.Vocabulary.{run}
use Rattle.tso_terms.specs.MemoryAccess.{MemoryAccess, access_of}
use Rattle.basic_laws.specs.Types.{Ebx, Instr, StoreImm, Load, Choice}
use Rattle.worked_examples.specs.Written.{loc_x, loc_y, step, drain}
use Rattle.worked_examples.specs.SmallPrograms.{alone}

-- the access of such a choice
abbrev pub access_after : List Instr → ℕ → List Choice → Choice → MemoryAccess
access_after program depth before choice = access_of (alone program) depth (run (alone program) depth before).state choice

-- MOV [x],$7 ; MOV [x],$8 ; MOV EBX,[x], and MOV [x],$7 ; MOV [x],$8 ; MOV EBX,[y]
abbrev pub load_of_own : List Instr
load_of_own = StoreImm loc_x 7 ∷ StoreImm loc_x 8 ∷ Load Ebx loc_x ∷ []

abbrev pub load_of_other : List Instr
load_of_other = StoreImm loc_x 7 ∷ StoreImm loc_x 8 ∷ Load Ebx loc_y ∷ []

abbrev pub drained : List Choice
drained = step 0 ∷ drain 0 ∷ []
