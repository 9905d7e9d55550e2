use Rattle.tso_laws.proofs.BusStopping.{stops-at-end, end-nothing, end-free}
use Rattle.tso_laws.proofs.bus_runs.runs_on_either_bus_stop_where_they_end.Goals as goal

pub returns : goal.returns
returns c = record { stops = stops-at-end; nothing_more = end-nothing; free = end-free }
