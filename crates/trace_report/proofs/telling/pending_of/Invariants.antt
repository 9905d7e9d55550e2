use Rattle.trace_report.proofs.Vocabulary.{◌≡◌, ◌-◌, length, take, core_of}
use Rattle.trace_report.proofs.telling.pending_of.Given as goal

abbrev pub invariant-loop-store : goal.invariant-loop-store
invariant-loop-store g l = l.stores.items ≡ take (length l.stores.items) (core_of l.machine.state.flat l.core.0).pending

abbrev pub decreases-loop-store : goal.decreases-loop-store
decreases-loop-store g l = length (core_of l.machine.state.flat l.core.0).pending - length l.stores.items
