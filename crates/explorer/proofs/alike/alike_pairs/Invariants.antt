use Rattle.explorer.proofs.Vocabulary.{AreAllAlike}
use Rattle.explorer.proofs.alike.alike_pairs.Given as goal

abbrev pub invariant-loop-core : goal.invariant-loop-core
invariant-loop-core l = AreAllAlike l.test l.hidden l.pairs.items

abbrev pub invariant-loop-other : goal.invariant-loop-other
invariant-loop-other l = AreAllAlike l.test l.hidden l.pairs.items
