use Rattle.found_reasons.proofs.Vocabulary.{◌++◌, not, refl, sym, ap, ◌∙◌, filter, edge_by, is_first}
use Rattle.execution_check.proofs.Growing.{all-made}
use Rattle.found_reasons.proofs.Parting.{parted-further, sorted-here, fewer-than}
use Rattle.found_reasons.proofs.sorting.sort.Goals as goal

pub loop-x-2-init : goal.loop-x-2-init
loop-x-2-init c =
    let edge = edge_by c.args.precedence in
    record {
      row = refl;
      left = ap (λ ls. ls ++ filter (λ x. not (is_first edge c.deref-x-items.result.now x)) c.deref-x-items.result.now) (sym c.new-left.ensures.items);
    }

pub returns-then-len : goal.returns-then-len
returns-then-len c =
    let edge = edge_by c.args.precedence in
    let items = c.deref-x-items.result.now in
    sorted-here edge c.args.some.now c.loop-x.row.items c.loop-x.rest.items items c.loop-x-2.row.items
    c.loop-x-2.left.items c.loop-x.invariant c.deref-x-items.ensures.value
    (all-made (filter (is_first edge items)) refl items c.loop-x-2.x-index c.loop-x-2.row.items _ c.loop-x-2-test.false c.loop-x-2.invariant.row)
    (all-made (filter (λ x. not (is_first edge items x))) refl items c.loop-x-2.x-index c.loop-x-2.left.items _ c.loop-x-2-test.false c.loop-x-2.invariant.left)
    (sym c.loop-x-2.left.ok.0 ∙ (sym c.len.ensures ∙ (c.if-len.true ∙ (c.len-in-loop-x.ensures ∙ c.loop-x.rest.ok.0))))

pub loop-x-smaller : goal.loop-x-smaller
loop-x-smaller c =
    let edge = edge_by c.args.precedence in
    let items = c.deref-x-items.result.now in
    fewer-than edge c.args.some.now c.loop-x.row.items c.loop-x.rest.items items c.loop-x-2.row.items
    c.loop-x-2.left.items c.loop-x.invariant c.deref-x-items.ensures.value
    (all-made (filter (is_first edge items)) refl items c.loop-x-2.x-index c.loop-x-2.row.items _ c.loop-x-2-test.false c.loop-x-2.invariant.row)
    (all-made (filter (λ x. not (is_first edge items x))) refl items c.loop-x-2.x-index c.loop-x-2.left.items _ c.loop-x-2-test.false c.loop-x-2.invariant.left)
    (λ same. c.if-len.false (c.len.ensures ∙ (c.loop-x-2.left.ok.0 ∙ (same ∙ (sym c.loop-x.rest.ok.0 ∙ sym c.len-in-loop-x.ensures)))))

pub loop-x-preserved : goal.loop-x-preserved
loop-x-preserved c =
    let edge = edge_by c.args.precedence in
    let items = c.deref-x-items.result.now in
    parted-further edge c.args.some.now c.loop-x.row.items c.loop-x.rest.items items c.loop-x-2.row.items
    c.loop-x-2.left.items c.loop-x.invariant c.deref-x-items.ensures.value
    (all-made (filter (is_first edge items)) refl items c.loop-x-2.x-index c.loop-x-2.row.items _ c.loop-x-2-test.false c.loop-x-2.invariant.row)
    (all-made (filter (λ x. not (is_first edge items x))) refl items c.loop-x-2.x-index c.loop-x-2.left.items _ c.loop-x-2-test.false c.loop-x-2.invariant.left)
