-- What a core's instructions still to come do to memory, as tables by how many of them there are.
use Rattle.std.specs.Prelude.{ℕ, ◌+◌, ◌≤◌, ◌≡◌, Bool, false, if◌then◌else◌, List, length, Some, slice_get}
use Rattle.std.specs.declared.vec.Vec.{Vec}
use Rattle.std.specs.declared.alloc.Global.{Global}
use Rattle.tso_terms.specs.Actions.{action_of}
use Rattle.tso_terms.specs.Litmus.{Litmus}
use Rattle.tso_terms.specs.FlatMachine.{program_of}
use Rattle.basic_laws.specs.Types.{Instr}
use Rattle.tso_laws.specs.Eager.{meets}
use Rattle.explorer.specs.declared.coming.Accesses.{Accesses}

-- the row says that no instruction writes the location or, where loads count, that none accesses it
abbrev pub LeavesOut : Accesses → Bool → ℕ → Type 0
LeavesOut row loads loc = slice_get (if loads then row.touched else row.written) loc ≡ Some false

-- what the row leaves out is done by none of the program's instructions from this place on
abbrev pub IsRowFrom : List Instr → ℕ → Accesses → Type 0
IsRowFrom program place row =
    (loads : Bool) (loc i : ℕ) (x : Instr) → LeavesOut row loads loc → place ≤ i → slice_get program i ≡ Some x → meets loads loc (action_of x) ≡ false

-- rows by how many instructions are still to come
abbrev pub AreComing : List Instr → List Accesses → Type 0
AreComing program rows =
    (left place : ℕ) (row : Accesses) → left + place ≡ length program → slice_get rows left ≡ Some row → IsRowFrom program place row

-- the rows of each core of a test
abbrev pub AreAllComing : Litmus → List (Vec Accesses Global) → Type 0
AreAllComing t cores = (core : ℕ) (rows : Vec Accesses Global) → slice_get cores core ≡ Some rows → AreComing (program_of t core) rows.items
