use Rattle.tso_laws.proofs.Whole.{whole-made, whole-once}
use Rattle.tso_laws.proofs.Fits.{whole-fits}
use Rattle.tso_laws.proofs.SoFar.{test-locations}
use Rattle.tso_laws.proofs.flat_runs.whole_orders_have_each_entry_once.Goals as goal

pub returns : goal.returns
returns c = record {
  made_by_the_programs = whole-made;
  once = whole-once;
  fits = λ t order e test whole stands. whole-fits t order e test (test-locations t test) whole stands;
}
