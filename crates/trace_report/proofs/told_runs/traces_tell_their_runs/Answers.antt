use Rattle.trace_report.proofs.RunsTold.{tells-run, tells-atomic}
use Rattle.trace_report.proofs.told_runs.traces_tell_their_runs.Goals as goal

pub returns : goal.returns
returns c = record { either = tells-run; atomic = tells-atomic c.atomic_runs_are_flat_runs.ensures }
