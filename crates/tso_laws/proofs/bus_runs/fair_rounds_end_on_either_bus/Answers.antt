use Rattle.tso_laws.proofs.BusRounds.{rounds-end}
use Rattle.tso_laws.proofs.bus_runs.fair_rounds_end_on_either_bus.Goals as goal

pub returns : goal.returns
returns c = rounds-end
