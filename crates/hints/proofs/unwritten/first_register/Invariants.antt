use Rattle.std.proofs.Common.{length}
use Rattle.hints.proofs.unwritten.first_register.Given as goal

abbrev pub decreases-tokens : goal.decreases-tokens
decreases-tokens l = length l.rest
