use Rattle.abstract_machine.proofs.OneStep.{held-stays, free-stays, end-unlocks}
use Rattle.abstract_machine.proofs.only_the_holder_unlocks.Goals as goal

pub returns : goal.returns
returns c = record { held = held-stays; free = free-stays; ends = end-unlocks }
