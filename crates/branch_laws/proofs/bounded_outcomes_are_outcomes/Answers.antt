use Rattle.branch_laws.proofs.Bounds.{each-outcome, all-outcomes}
use Rattle.branch_laws.proofs.bounded_outcomes_are_outcomes.Goals as goal

pub returns : goal.returns
returns c = record { each = each-outcome; all = all-outcomes }
