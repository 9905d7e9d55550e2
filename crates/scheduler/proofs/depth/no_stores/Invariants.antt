use Rattle.scheduler.proofs.Vocabulary.{[], HaveCounted}
use Rattle.scheduler.proofs.depth.no_stores.Given as goal

abbrev pub invariant-loop-core : goal.invariant-loop-core
invariant-loop-core l = HaveCounted l._core l.stores.items []
