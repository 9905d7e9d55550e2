use Rattle.commit_order.proofs.Vocabulary.{◌<◌, ◌∙◌, ◌++◌, length, take, Some, sym, ap, arith}
use Rattle.commit_order.proofs.Together.{first-found, others-found, first-of-rest, others-of-rest, same-got}
use Rattle.commit_order.proofs.building.take_of.Goals as goal

pub returns-then-eq-clause-first : goal.returns-then-eq-clause-first
returns-then-eq-clause-first c =
    let within : c.loop-i.i < length c.loop-i.entries.items = omega (arith, c.loop-i-test.true, c.len-i-end.ensures, c.loop-i.auto.i-end) in
    let found = first-found c.args.core.0 c.loop-i.entries.items c.loop-i.i c.index.result.now within c.index.ensures (sym c.eq.ensures ∙ c.if-eq.true) in
    ap Some (c.remove.ensures.value ∙ same-got c.loop-i.entries.items c.loop-i.i c.remove.result c.index.result.now within ∙ sym c.index.ensures)
    ∙ sym found
    ∙ sym c.loop-i.invariant.0

pub returns-then-eq-clause-others : goal.returns-then-eq-clause-others
returns-then-eq-clause-others c =
    let found =
    others-found c.args.core.0 c.loop-i.entries.items c.loop-i.i c.index.result.now
    (omega (arith, c.loop-i-test.true, c.len-i-end.ensures, c.loop-i.auto.i-end)) c.index.ensures
    (sym c.eq.ensures ∙ c.if-eq.true) in
    c.remove.ensures.by_index.2 ∙ ap (λ ys. take c.loop-i.i c.loop-i.entries.items ++ ys) (sym found) ∙ sym c.loop-i.invariant.1

pub returns-clause-first : goal.returns-clause-first
returns-clause-first c =
    sym (c.loop-i.invariant.0
    ∙ first-of-rest c.args.core.0 c.loop-i.entries.items c.loop-i.i
    (omega (arith, c.loop-i-test.false, c.len-i-end.ensures, c.loop-i.auto.i-end, ap length c.loop-i.invariant.2)))

pub returns-clause-others : goal.returns-clause-others
returns-clause-others c =
    sym (c.loop-i.invariant.1
    ∙ others-of-rest c.args.core.0 c.loop-i.entries.items c.loop-i.i
    (omega (arith, c.loop-i-test.false, c.len-i-end.ensures, c.loop-i.auto.i-end, ap length c.loop-i.invariant.2)))
