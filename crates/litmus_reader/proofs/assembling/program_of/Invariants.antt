use Rattle.litmus_reader.proofs.Vocabulary.{◌≡◌, ◌++◌, drop, program_of}
use Rattle.litmus_reader.proofs.assembling.program_of.Given as goal

abbrev pub invariant-loop-i : goal.invariant-loop-i
invariant-loop-i l = l.program.items ++ program_of (drop l.i-index l.instrs) l.core ≡ program_of l.instrs l.core
