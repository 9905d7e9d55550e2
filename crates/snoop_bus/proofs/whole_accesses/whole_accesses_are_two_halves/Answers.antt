use Rattle.snoop_bus.proofs.WholeAccess.{load_halves, write_halves}
use Rattle.snoop_bus.proofs.whole_accesses.whole_accesses_are_two_halves.Goals as goal

pub returns-clause-loads : goal.returns-clause-loads
returns-clause-loads c = load_halves

pub returns-clause-writes : goal.returns-clause-writes
returns-clause-writes c = write_halves
