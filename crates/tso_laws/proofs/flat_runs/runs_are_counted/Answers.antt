use Rattle.tso_laws.proofs.Work.{counted-buffered, counted-unbuffered}
use Rattle.tso_laws.proofs.flat_runs.runs_are_counted.Goals as goal

pub returns : goal.returns
returns c = record { buffered = counted-buffered; unbuffered = counted-unbuffered }
