use Rattle.tso_laws.proofs.BusWaiting.{access-kept}
use Rattle.tso_laws.proofs.bus_runs.accesses_wait.Goals as goal

pub returns : goal.returns
returns c = access-kept
