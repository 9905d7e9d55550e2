use Rattle.tso_laws.proofs.Most.{most-is-enough}
use Rattle.tso_laws.proofs.Reaching.{greatest-is-enough}
use Rattle.tso_laws.proofs.flat_runs.most_stores_are_depth_enough.Goals as goal

pub returns : goal.returns
returns c = record { of_a_program = most-is-enough; greatest = greatest-is-enough }
