use Rattle.order_breaches.proofs.Vocabulary.{ap, sym, ◌∙◌, refl, unwrap_or, reads_that_came}
use Rattle.order_breaches.proofs.Making.{made-all, read-more, other-more}
use Rattle.order_breaches.proofs.programs.reads_in_order.Goals.{then-is_read+in_ok-push, else-is_read}
use Rattle.order_breaches.proofs.programs.reads_in_order.Goals as goal

pub loop-i-preserved : goal.loop-i-preserved
loop-i-preserved c = elim c.if-is_read.branch [
  | then-is_read+in_ok-push w ↦
      read-more c.loop-i.i c.args.came.now c.args.shape.now _ c.loop-i-test.true _ c.loop-i.values.items
      c.loop-i.invariant w.unwrap_or.result c.if-is_read.values.items (sym c.is_read.ensures ∙ w.if-is_read.true)
      (w.unwrap_or.ensures ∙ ap (λ o. unwrap_or o 0) w.kept.ensures) (ap (λ v. v.items) w.values-is ∙ w.in_ok-push.ensures.items)
  | else-is_read w ↦
      other-more c.loop-i.i c.args.came.now c.args.shape.now _ c.loop-i-test.true _ c.loop-i.values.items
      c.loop-i.invariant c.if-is_read.values.items (sym c.is_read.ensures ∙ w.if-is_read.false)
      (ap (λ v. v.items) w.values-is)
]

pub returns : goal.returns
returns c =
    made-all (λ es. reads_that_came c.loop-i.i c.args.came.now es) c.args.shape.now c.loop-i.i refl c.loop-i-test.false
    _ c.loop-i.values.items c.loop-i.invariant
