use Rattle.flat_machine.proofs.Vocabulary.{◌≡◌, take, map}
use Rattle.flat_machine.proofs.ending.write_registers.Given as goal

abbrev pub invariant-loop-core : goal.invariant-loop-core
invariant-loop-core l = l.registers.items ≡ map (λ c. c.registers) (take l.core-index l.cores)
