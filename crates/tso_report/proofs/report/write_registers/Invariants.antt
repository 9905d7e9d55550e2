use Rattle.tso_report.proofs.Vocabulary.{◌≡◌, ◌++◌, drop, string_bytes, register_lines}
use Rattle.tso_report.proofs.report.write_registers.Given as goal

abbrev pub invariant-loop-core : goal.invariant-loop-core
invariant-loop-core l =
    string_bytes l.text ++ register_lines l.core (drop l.core l.registers) ≡ string_bytes l.initial.text ++ register_lines 0 l.registers
