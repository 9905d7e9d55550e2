use Rattle.tso_laws.proofs.SoFar.{possible-so-far, choices-so-far, run-so-far}
use Rattle.tso_laws.proofs.flat_runs.what_holds_so_far.Goals as goal

pub returns : goal.returns
returns c = record { in_each_state = possible-so-far; after_choices = choices-so-far; in_runs = run-so-far }
