use Rattle.trace_report.proofs.Vocabulary.{◌≡◌, take}
use Rattle.trace_report.proofs.machine_as_json.machine_value.Given as goal

abbrev pub invariant-loop-loc : goal.invariant-loop-loc
invariant-loop-loc g l = l.seen.items ≡ take l.loc l.moment.machine.now.state.flat.memory
