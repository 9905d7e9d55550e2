use Rattle.tso_laws.proofs.BusStopping.{possible-stall}
use Rattle.tso_laws.proofs.bus_runs.stalls_on_either_bus_change_nothing.Goals as goal

pub returns : goal.returns
returns c = possible-stall
