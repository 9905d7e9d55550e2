use Rattle.tso_laws.proofs.SoFar.{test-locations}
use Rattle.tso_laws.proofs.Beginnings.{run-needs}
use Rattle.tso_laws.proofs.Reaching.{never}
use Rattle.tso_laws.proofs.flat_runs.smaller_depths_never_reach.Goals as goal

pub returns : goal.returns
returns c = record { within = λ t depth choices test some. run-needs t depth choices some (test-locations t test); never = never }
