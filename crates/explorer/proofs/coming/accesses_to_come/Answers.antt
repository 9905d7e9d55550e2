use Rattle.explorer.proofs.Vocabulary.{arith}
use Rattle.explorer.proofs.StillToCome.{coming-none, coming-more, coming-all}
use Rattle.explorer.proofs.coming.accesses_to_come.Goals as goal

pub loop-left-init : goal.loop-left-init
loop-left-init c = coming-none _ _ _ _ c.new-rows.ensures.items c.in_ok-push.ensures.items

pub loop-left-preserved : goal.loop-left-preserved
loop-left-preserved c =
    let l = c.loop-left-test.true in
    coming-more _ _ _ c.loop-left.left _ c.action-action.result _ c.index.result.now c.before_action-before.result c.loop-left.invariant
    (omega (arith, l)) c.action-action.ensures c.index.ensures c.in_ok-push-2.ensures.items c.before_action-before.ensures

pub returns : goal.returns
returns c = coming-all _ _ c.loop-left.left c.loop-left-test.false c.loop-left.auto.left-end c.loop-left.invariant
