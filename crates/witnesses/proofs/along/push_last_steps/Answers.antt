use Rattle.witnesses.proofs.Vocabulary.{refl, arith}
use Rattle.witnesses.proofs.AlongLemmas.{last-more, all-done}
use Rattle.witnesses.proofs.along.push_last_steps.Goals as goal

pub loop-core-init : goal.loop-core-init
loop-core-init c = refl

pub loop-core-preserved : goal.loop-core-preserved
loop-core-preserved c =
    let lt = c.loop-core-test.true in
    let n = c.cores-core-end.ensures.value in
    last-more c.args.test.now.programs c.args.places.now c.loop-core.core c.from.result c.saturating_sub-left.result
    c.program-left.result.now c.loop-core.choices.items c.push_steps.new.choices.items _
    (omega (arith, lt, n)) c.program-left.ensures.value c.from.ensures c.saturating_sub-left.ensures c.in_ok-push_steps.ensures c.loop-core.invariant

pub returns : goal.returns
returns c =
    let le = c.loop-core-test.false in
    let n = c.cores-core-end.ensures.value in
    all-done c.args.test.now.programs c.args.places.now c.loop-core.core c.loop-core.choices.items _ (omega (arith, le, n)) c.loop-core.invariant
