use Rattle.tso_laws.proofs.Stopping.{run-stops-at-end, end-nothing}
use Rattle.tso_laws.proofs.flat_runs.runs_stop_where_they_end.Goals as goal

pub returns : goal.returns
returns c = record { stops = run-stops-at-end; nothing_more = end-nothing }
