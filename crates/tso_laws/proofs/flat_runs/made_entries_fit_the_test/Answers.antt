use Rattle.tso_laws.proofs.Fits.{made-entry-fits}
use Rattle.tso_laws.proofs.SoFar.{test-locations}
use Rattle.tso_laws.proofs.flat_runs.made_entries_fit_the_test.Goals as goal

pub returns : goal.returns
returns c = λ t order e test stands. made-entry-fits t order e test (test-locations t test) stands
