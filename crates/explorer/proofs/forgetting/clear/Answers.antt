use Rattle.explorer.proofs.Vocabulary.{◌+◌, sym, subst}
use Rattle.explorer.proofs.Forgets.{IsClearing, clears-none, clears-more, clears-skip, clears-all}
use Rattle.explorer.proofs.forgetting.clear.Goals as goal
use Rattle.explorer.proofs.forgetting.clear.Goals.{then-dead-at, else-dead-at}

pub loop-at-init : goal.loop-at-init
loop-at-init c = clears-none _ _ c.told-registers

pub loop-at-preserved : goal.loop-at-preserved
loop-at-preserved c = elim c.if-dead-at.branch [
  | then-dead-at w ↦ clears-more _ _ _ _ c.loop-at.at c.loop-at.invariant w.if-dead-at.true w.registers-is c.if-dead-at.array_long
  | else-dead-at w ↦
      subst (λ z. IsClearing c.args.dead.now c.args.registers.now z (c.loop-at.at + 1)) (sym w.registers-is)
      (clears-skip _ _ _ c.loop-at.at c.loop-at.invariant w.if-dead-at.false)
]

pub returns : goal.returns
returns c = clears-all _ _ _ _ c.loop-at.invariant c.loop-at-test.false
