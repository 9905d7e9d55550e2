use Rattle.explorer.proofs.Forgets.{IsClearing}
use Rattle.explorer.proofs.forgetting.clear.Given as goal

abbrev pub invariant-loop-at : goal.invariant-loop-at
invariant-loop-at l = IsClearing l.dead l.fn.registers l.registers l.at
