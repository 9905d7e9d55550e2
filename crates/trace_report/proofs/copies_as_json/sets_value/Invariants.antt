use Rattle.tso_report.specs.inner.Arrays.{IsBegun}
use Rattle.trace_report.proofs.Vocabulary.{◌-◌, sets_json}
use Rattle.trace_report.proofs.copies_as_json.sets_value.Given as goal

abbrev pub invariant-loop-set : goal.invariant-loop-set
invariant-loop-set g l =
    IsBegun l.values (sets_json l.moment.machine.now l.core.0 l.set (l.moment.config.shape.sets - l.set))
    (sets_json l.moment.machine.now l.core.0 0 l.moment.config.shape.sets)
