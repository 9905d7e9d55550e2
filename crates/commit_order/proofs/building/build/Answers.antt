use Rattle.commit_order.proofs.Vocabulary.{◌<◌, ◌+◌, ◌∙◌, sym, ap, subst, arith, drop, length, IsAdjacent, put_together, IsPaired, IsBuiltSoFar}
use Rattle.commit_order.proofs.Together.{built-first, built-last, drop-end, drop-next, load-step, plain-step, store-step}
use Rattle.commit_order.proofs.Pairing.{IsAdjacent-paired}
use Rattle.commit_order.proofs.building.build.Goals.{then-is_load_part+in_ok-push, else-is_load_part+in_ok-push-3, in-Some+in_ok-push-2, in_default}
use Rattle.commit_order.proofs.building.build.Goals as goal

pub loop-entry-init : goal.loop-entry-init
loop-entry-init c =
    rw (c.new-order.ensures.items, c.new-waiting.ensures.items)
    (built-first c.entries-entry-items.result.now (subst IsPaired (sym c.entries-entry-items.ensures) c.requires))

pub loop-entry-preserved : goal.loop-entry-preserved
loop-entry-preserved c =
    let items = c.entries-entry-items.result.now in
    let within : c.loop-entry.entry-index < length items = c.loop-entry-test.true in
    let so_far =
    subst (λ left. IsBuiltSoFar c.loop-entry.order.items c.loop-entry.waiting.items left items)
    (drop-next items c.loop-entry.entry-index _ within) c.loop-entry.invariant in
    elim c.if-is_load_part.branch [
      | then-is_load_part+in_ok-push w ↦ load-step _ c.loop-entry.order.items _ c.loop-entry.waiting.items _ (drop (c.loop-entry.entry-index + 1) items) items
          (sym c.is_load_part.ensures ∙ w.if-is_load_part.true) (ap (λ v. v.items) w.order-is)
          (ap (λ v. v.items) w.waiting-is ∙ w.in_ok-push.ensures.items) so_far
      | else-is_load_part+in_ok-push-3 w ↦
          let no_load = sym c.is_load_part.ensures ∙ w.if-is_load_part.false in
          let put = ap (λ v. v.items) w.order-is ∙ w.in_ok-push-3.ensures.items in
          let left = ap (λ v. v.items) w.waiting-is ∙ w.take_of.ensures.others in
          elim w.match-take_of.branch [
            | in-Some+in_ok-push-2 v ↦
                store-step _ v.in-Some.load_part c.loop-entry.order.items w.match-take_of.order.items _
                c.loop-entry.waiting.items _ (drop (c.loop-entry.entry-index + 1) items) items no_load
                (sym v.in-Some.ensures.first)
                (ap (λ v. v.items) v.order-is ∙ v.in_ok-push-2.ensures.items) put left so_far
            | in_default v ↦
                plain-step _ c.loop-entry.order.items w.match-take_of.order.items _ c.loop-entry.waiting.items _
                (drop (c.loop-entry.entry-index + 1) items) items no_load
                (sym w.take_of.ensures.first ∙ v.in_default.is) (ap (λ v. v.items) v.order-is) put left so_far
          ]
    ]

pub returns-clause-order : goal.returns-clause-order
returns-clause-order c =
    built-last c.loop-entry.order.items c.loop-entry.waiting.items _ _
    (drop-end c.entries-entry-items.result.now c.loop-entry.entry-index (omega (
      arith,
      c.loop-entry-test.false,
      c.loop-entry.auto.entry-index-end,
    )))
    c.loop-entry.invariant
    ∙ ap put_together c.entries-entry-items.ensures

pub returns-clause-pairs : goal.returns-clause-pairs
returns-clause-pairs c =
    let order = built-last c.loop-entry.order.items c.loop-entry.waiting.items _ _
    (drop-end c.entries-entry-items.result.now c.loop-entry.entry-index (omega (
      arith,
      c.loop-entry-test.false,
      c.loop-entry.auto.entry-index-end,
    )))
    c.loop-entry.invariant
    ∙ ap put_together c.entries-entry-items.ensures in
    subst IsAdjacent (sym order) (IsAdjacent-paired c.args.commits.now.entries c.requires)
