use Rattle.tso_laws.proofs.SoFar.{test-locations}
use Rattle.tso_laws.proofs.Beginnings.{run-keeps-all}
use Rattle.tso_laws.proofs.flat_runs.no_buffer_no_reordering.Goals as goal

pub returns : goal.returns
returns c = λ t choices test. run-keeps-all t choices (test-locations t test)
