use Rattle.tso_laws.proofs.BusStopping.{possible-own}
use Rattle.tso_laws.proofs.bus_runs.pending_stores_are_own.Goals as goal

pub returns : goal.returns
returns c = possible-own
