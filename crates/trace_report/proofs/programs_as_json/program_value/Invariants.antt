use Rattle.tso_report.specs.inner.Arrays.{IsBegun}
use Rattle.trace_report.proofs.Vocabulary.{drop, map, string, instruction_text}
use Rattle.trace_report.proofs.programs_as_json.program_value.Given as goal

abbrev pub invariant-loop-instr : goal.invariant-loop-instr
invariant-loop-instr l =
    IsBegun l.texts (map string (map (instruction_text l.test) (drop l.instr-index l.program))) (map string (map (instruction_text l.test) l.initial.program))
