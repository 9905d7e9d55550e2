use Rattle.tso_laws.proofs.Ending.{keeps-all}
use Rattle.tso_laws.proofs.bus_runs.no_buffer_no_reordering_on_either_bus.Goals as goal

pub returns : goal.returns
returns c = keeps-all c.no_buffer_no_reordering.ensures
