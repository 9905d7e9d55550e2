use Rattle.trace_report.proofs.WriteBacksTold.{all-told, protocols-keep}
use Rattle.trace_report.proofs.told_runs.accesses_are_told.Goals as goal

pub returns-clause-counts : goal.returns-clause-counts
returns-clause-counts c = all-told

pub returns-clause-protocols : goal.returns-clause-protocols
returns-clause-protocols c = protocols-keep
