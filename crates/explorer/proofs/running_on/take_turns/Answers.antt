use Rattle.explorer.proofs.Vocabulary.{refl}
use Rattle.explorer.proofs.Appending.{none-appended, all-appended}
use Rattle.explorer.proofs.running_on.take_turns.Goals as goal

pub loop-at-init : goal.loop-at-init
loop-at-init c = record { made = none-appended _ _ _ _ _ _ refl refl; cores = c.requires }

pub loop-at-preserved : goal.loop-at-preserved
loop-at-preserved c = record {
  made = all-appended _ _ _ _ _ _ _ _ c.loop-at.invariant.made c.in_ok-take_turn.ensures.made;
  cores = c.in_ok-take_turn.ensures.cores;
}
