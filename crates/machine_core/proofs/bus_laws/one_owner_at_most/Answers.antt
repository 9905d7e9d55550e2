use Rattle.machine_core.proofs.Vocabulary.{counted_copies}
use Rattle.machine_core.proofs.Dirty.{one-owner}
use Rattle.machine_core.proofs.bus_laws.one_owner_at_most.Goals as goal

pub returns : goal.returns
returns c = λ b line i j h. one-owner (counted_copies b) b.memory line i j h
