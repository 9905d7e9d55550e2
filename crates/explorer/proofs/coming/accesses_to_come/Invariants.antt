use Rattle.explorer.proofs.StillToCome.{AreComingSoFar}
use Rattle.explorer.proofs.coming.accesses_to_come.Given as goal

abbrev pub invariant-loop-left : goal.invariant-loop-left
invariant-loop-left l = AreComingSoFar l.program l.rows.items l.left
