use Rattle.counted_steps.proofs.CopiesLost.{traffic-is-sums}
use Rattle.counted_steps.proofs.traffic_is_sums_of_steps.Goals as goal

pub returns : goal.returns
returns c = traffic-is-sums
