use Rattle.counted_steps.proofs.StepsCounted.{sums-of-steps}
use Rattle.counted_steps.proofs.counts_are_sums_of_steps.Goals as goal

pub returns : goal.returns
returns c = sums-of-steps
