use Rattle.explorer.proofs.Planning.{AreDeadSoFar}
use Rattle.explorer.proofs.plan.dead_registers.Given as goal

abbrev pub invariant-loop-left : goal.invariant-loop-left
invariant-loop-left l = AreDeadSoFar l.program l.fn.hidden l.rows.items l.left
