use Rattle.tso_laws.proofs.Vocabulary.{refl}
use Rattle.tso_laws.proofs.Folds.{needed-first}
use Rattle.tso_laws.proofs.flat_runs.needed_is_the_most_that_is_asked.Goals as goal

pub returns : goal.returns
returns c = record { none = refl; first = needed-first }
