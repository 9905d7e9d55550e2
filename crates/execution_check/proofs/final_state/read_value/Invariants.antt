use Rattle.std.proofs.Common.{◌≡◌, drop}
use Rattle.tso_terms.specs.ProgramEntries.{read_value}
use Rattle.execution_check.proofs.final_state.read_value.Given as goal

abbrev pub invariant-loop-e : goal.invariant-loop-e
invariant-loop-e l = read_value l.core.0 l.place l.kind l.order ≡ read_value l.core.0 l.place l.kind (drop l.e-index l.order)
