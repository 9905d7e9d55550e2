use Rattle.tso_report.specs.inner.Arrays.{IsBegun}
use Rattle.trace_report.proofs.Vocabulary.{drop, map, program_value}
use Rattle.trace_report.proofs.programs_as_json.programs_value.Given as goal

abbrev pub invariant-loop-core : goal.invariant-loop-core
invariant-loop-core l = IsBegun l.programs (map (program_value l.test) (drop l.core l.test.programs)) (map (program_value l.test) l.test.programs)
