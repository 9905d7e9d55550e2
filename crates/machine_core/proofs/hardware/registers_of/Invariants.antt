use Rattle.machine_core.proofs.Vocabulary.{◌≡◌, map, take}
use Rattle.machine_core.proofs.hardware.registers_of.Given as goal

abbrev pub invariant-loop-processor : goal.invariant-loop-processor
invariant-loop-processor l = l.registers.items ≡ map (λ p. p.registers) (take l.processor-index l.processors)
