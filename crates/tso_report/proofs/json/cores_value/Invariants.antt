use Rattle.tso_report.specs.inner.Arrays.{IsBegun}
use Rattle.tso_report.proofs.Vocabulary.{drop, map, registers_value}
use Rattle.tso_report.proofs.json.cores_value.Given as goal

abbrev pub invariant-loop-registers : goal.invariant-loop-registers
invariant-loop-registers l = IsBegun l.values (map registers_value (drop l.registers-index l.registers)) (map registers_value l.initial.registers)
