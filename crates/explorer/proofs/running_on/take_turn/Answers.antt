use Rattle.explorer.proofs.Vocabulary.{refl}
use Rattle.explorer.proofs.Appending.{none-appended, all-appended}
use Rattle.explorer.proofs.running_on.take_turn.Goals as goal

pub loop-made-init : goal.loop-made-init
loop-made-init c = record { made = none-appended _ _ _ _ _ _ refl refl; cores = c.requires }

pub loop-made-preserved : goal.loop-made-preserved
loop-made-preserved c = record {
  made = all-appended _ _ _ _ _ _ _ _ c.loop-made.invariant.made c.in_ok-has_gone_on.ensures.made;
  cores = c.in_ok-has_gone_on.ensures.cores;
}

pub returns-then-not-has_gone_on-clause-made : goal.returns-then-not-has_gone_on-clause-made
returns-then-not-has_gone_on-clause-made c = all-appended _ _ _ _ _ _ _ _ c.loop-made.invariant.made c.in_ok-has_gone_on.ensures.made
