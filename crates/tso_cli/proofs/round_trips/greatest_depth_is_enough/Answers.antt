use Rattle.tso_cli.proofs.WitnessLemmas.{found-at-greatest}
use Rattle.tso_cli.proofs.round_trips.greatest_depth_is_enough.Goals as goal

pub returns : goal.returns
returns c = λ t order out status test execution.
    found-at-greatest t order out status (c.most_stores_are_depth_enough.ensures.greatest t order test execution) c.first_breach_is_real.ensures execution
