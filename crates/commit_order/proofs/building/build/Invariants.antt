use Rattle.commit_order.proofs.Vocabulary.{drop, IsBuiltSoFar}
use Rattle.commit_order.proofs.building.build.Given as goal

abbrev pub invariant-loop-entry : goal.invariant-loop-entry
invariant-loop-entry l = IsBuiltSoFar l.order.items l.waiting.items (drop l.entry-index l.entry-items) l.entry-items
