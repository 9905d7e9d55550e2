use Rattle.litmus_reader.proofs.Vocabulary.{◌≡◌, map, program_of, range_with_len}
use Rattle.litmus_reader.proofs.assembling.programs_of.Given as goal

abbrev pub invariant-loop-core : goal.invariant-loop-core
invariant-loop-core l = map (λ program. program.items) l.programs.items ≡ map (program_of l.instrs) (range_with_len 0 l.core)
