use Rattle.explorer.proofs.Vocabulary.{ap, ◌∙◌, ◌++◌, ◌∷◌, [], arith}
use Rattle.explorer.proofs.Planning.{rows-none, rows-more, rows-all}
use Rattle.explorer.proofs.plan.dead_registers.Goals as goal

pub loop-left-init : goal.loop-left-init
loop-left-init c = rows-none _ _ _ (c.in_ok-push.ensures.items ∙ ap (λ z. z ++ c.args.hidden ∷ []) c.new-rows.ensures.items)

pub loop-left-preserved : goal.loop-left-preserved
loop-left-preserved c =
    let l = c.loop-left-test.true in
    rows-more _ _ _ _ c.loop-left.left _ c.action-action.result _ c.index.result.now c.dead_before-before.result c.loop-left.invariant
    (omega (arith, l)) c.action-action.ensures c.index.ensures c.dead_before-before.ensures c.in_ok-push-2.ensures.items

pub returns : goal.returns
returns c = rows-all _ _ _ c.loop-left.left c.loop-left-test.false c.loop-left.auto.left-end c.loop-left.invariant
