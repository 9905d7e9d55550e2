use Rattle.trace_report.proofs.Vocabulary.{◌≡◌, ◌-◌, length, map, take, string, view, core_of, store_text}
use Rattle.trace_report.proofs.cores_as_json.buffer_value.Given as goal

abbrev pub invariant-loop-store : goal.invariant-loop-store
invariant-loop-store g l =
    map view l.values.items
    ≡ take (length l.values.items) (map string (map (store_text l.moment.test.now) (core_of l.moment.machine.now.state.flat l.core.0).pending))

abbrev pub decreases-loop-store : goal.decreases-loop-store
decreases-loop-store g l = length (core_of l.moment.machine.now.state.flat l.core.0).pending - length l.values.items
