-- What is worked out before a search: for each place of each program which registers are dead and what is still to come, and pairs
-- of cores that are alike.
use Rattle.std.specs.Prelude.{ℕ, ◌≡◌, ◌+◌, Bool, List, length, Some, slice_get, drop}
use Rattle.std.specs.declared.vec.Vec.{Vec}
use Rattle.std.specs.declared.alloc.Global.{Global}
use Rattle.tso_terms.specs.FlatMachine.{program_of}
use Rattle.tso_terms.specs.declared.instruction.Instr.{Instr}
use Rattle.tso_laws.specs.Dead.{dead_at, hidden_of}
use Rattle.tso_laws.specs.Exchanged.{AreAllAlike}
use Rattle.explorer.specs.inner.Coming.{AreAllComing}
use Rattle.explorer.specs.declared.plan.Plan.{Plan}

-- which registers of a core are dead, by how many of its instructions are still to come
pub record AreDead (program : List Instr) (hidden : List Bool) (rows : List (List Bool)) : Type 0 where
  pub count : length rows ≡ length program + 1
  pub each : (left place : ℕ) → left + place ≡ length program → slice_get rows left ≡ Some (dead_at (drop place program) hidden)

-- a plan has them for each core of its test, and what is still to come, and its pairs are of cores that are alike
pub record IsPlan (plan : Plan) : Type 0 where
  pub count : length plan.dead.items ≡ length plan.test.now.programs
  pub each : (core : ℕ) (rows : Vec (List Bool) Global) → slice_get plan.dead.items core ≡ Some rows
      → AreDead (program_of plan.test.now core) (hidden_of plan.hidden.now core) rows.items
  pub coming : AreAllComing plan.test.now plan.coming.items
  pub alike : AreAllAlike plan.test.now plan.hidden.now plan.alike.items
