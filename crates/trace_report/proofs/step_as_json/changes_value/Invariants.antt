use Rattle.tso_report.specs.inner.Arrays.{IsBegun}
use Rattle.trace_report.proofs.Vocabulary.{drop, map, string, printed_change}
use Rattle.trace_report.proofs.step_as_json.changes_value.Given as goal

abbrev pub invariant-loop-change : goal.invariant-loop-change
invariant-loop-change l =
    IsBegun l.values (map string (map (printed_change l.test l.words) (drop l.change-index l.changes)))
    (map string (map (printed_change l.test l.words) l.initial.changes))
