use Rattle.scheduler.proofs.Counted.{Counted}
use Rattle.scheduler.proofs.depth.needed.Given as goal

abbrev pub invariant-loop-passed : goal.invariant-loop-passed
invariant-loop-passed l = Counted l.cores l.stores.items l.most l.order l.passed
