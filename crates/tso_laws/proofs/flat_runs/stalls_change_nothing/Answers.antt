use Rattle.tso_laws.proofs.Stopping.{stall-nothing}
use Rattle.tso_laws.proofs.flat_runs.stalls_change_nothing.Goals as goal

pub returns : goal.returns
returns c = stall-nothing
