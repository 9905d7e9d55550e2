use Rattle.std.proofs.Common.{length}
use Rattle.hints.proofs.faults.last_core.Given as goal

abbrev pub decreases-lines : goal.decreases-lines
decreases-lines l = length l.rest
