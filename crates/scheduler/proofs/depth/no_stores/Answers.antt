use Rattle.scheduler.proofs.Counted.{nothing-counted}
use Rattle.scheduler.proofs.depth.no_stores.Goals as goal

pub loop-core-preserved : goal.loop-core-preserved
loop-core-preserved c = nothing-counted c.loop-core._core c.loop-core.stores.items c.push.new.self.items c.in_ok-push.ensures.items c.loop-core.invariant
