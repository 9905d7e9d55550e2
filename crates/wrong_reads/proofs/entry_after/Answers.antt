use Rattle.std.proofs.Common.{arith}
use Rattle.wrong_reads.proofs.entry_after.Goals as goal

pub returns-then-len-at-gt1-clause-looks : goal.returns-then-len-at-gt1-clause-looks
returns-then-len-at-gt1-clause-looks g c = grind arith
