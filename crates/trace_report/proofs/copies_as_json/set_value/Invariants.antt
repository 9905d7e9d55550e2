use Rattle.trace_report.proofs.Vocabulary.{◌≡◌, ◌-◌, length, map, take, view, copy_json, cached_lines_in}
use Rattle.trace_report.proofs.copies_as_json.set_value.Given as goal

abbrev pub invariant-loop-copy : goal.invariant-loop-copy
invariant-loop-copy g l =
    map view l.values.items ≡ take (length l.values.items) (map (copy_json l.moment.machine.now l.core.0) (cached_lines_in l.moment.machine.now l.core.0 l.set))

abbrev pub decreases-loop-copy : goal.decreases-loop-copy
decreases-loop-copy g l = length (cached_lines_in l.moment.machine.now l.core.0 l.set) - length l.values.items
