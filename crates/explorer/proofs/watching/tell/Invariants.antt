use Rattle.explorer.proofs.Vocabulary.{◌≡◌, length}
use Rattle.explorer.proofs.watching.tell.Given as goal

abbrev pub invariant-loop-at : goal.invariant-loop-at
invariant-loop-at g l = length l.room.cores.items ≡ length l.plan.test.now.programs
