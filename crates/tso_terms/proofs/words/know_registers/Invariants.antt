use Rattle.std.specs.List.{AllWithin}
use Rattle.tso_terms.specs.Registers.{AreRegisters}
use Rattle.tso_terms.proofs.words.know_registers.Given as goal

abbrev pub invariant-loop-registers : goal.invariant-loop-registers
invariant-loop-registers l = AllWithin AreRegisters l.all 0 l.registers-index
