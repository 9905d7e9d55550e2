use Rattle.tso_laws.proofs.BusStopping.{possible-so-far, possible-free}
use Rattle.tso_laws.proofs.bus_runs.what_holds_so_far_on_either_bus.Goals as goal

pub returns : goal.returns
returns c = record { so_far = possible-so-far; free = possible-free }
