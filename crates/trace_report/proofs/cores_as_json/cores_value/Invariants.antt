use Rattle.tso_report.specs.inner.Arrays.{IsBegun}
use Rattle.trace_report.proofs.Vocabulary.{◌-◌, length, cores_json}
use Rattle.trace_report.proofs.cores_as_json.cores_value.Given as goal

abbrev pub invariant-loop-core : goal.invariant-loop-core
invariant-loop-core g l =
    IsBegun l.values (cores_json l.moment.machine.now l.core (length l.moment.test.now.programs - l.core))
    (cores_json l.moment.machine.now 0 (length l.moment.test.now.programs))
