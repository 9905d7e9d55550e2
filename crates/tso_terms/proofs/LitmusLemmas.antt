-- What a test's limits say of one of its programs.
use Rattle.std.proofs.Common.{◌≡◌, ◌<◌, ℕ, List, [], length, slice_index_or, sym, subst}
use Rattle.tso_terms.specs.Litmus.{Litmus, IsTest, IsProgram}
use Rattle.tso_terms.specs.declared.instruction.Instr.{Instr}

pub IsProgram-of_core : (t : Litmus) (core : ℕ) (program : List Instr)
    → IsTest t
    → core < length t.programs
    → program ≡ slice_index_or t.programs core []
    → IsProgram (length t.locations) program
IsProgram-of_core t core program valid known e = subst (IsProgram (length t.locations)) (sym e) (valid.programs_fit core [] known)
