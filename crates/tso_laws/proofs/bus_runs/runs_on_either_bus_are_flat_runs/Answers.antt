use Rattle.tso_laws.proofs.Ending.{is-flat}
use Rattle.tso_laws.proofs.bus_runs.runs_on_either_bus_are_flat_runs.Goals as goal

pub returns : goal.returns
returns c = is-flat
