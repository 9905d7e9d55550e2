use Rattle.snoop_bus.proofs.BothWays.{load-agrees, write-agrees}
use Rattle.snoop_bus.proofs.whole_accesses.halves_leave_what_whole_accesses_do.Goals as goal

pub returns-clause-loads : goal.returns-clause-loads
returns-clause-loads c = load-agrees

pub returns-clause-writes : goal.returns-clause-writes
returns-clause-writes c = write-agrees
