use Rattle.order_breaches.proofs.Vocabulary.{slice_get, ap, sym, ◌∙◌, arith, must_stand_before}
use Rattle.order_breaches.proofs.Meeting.{one-more-fails}
use Rattle.order_breaches.proofs.met.first_overtaking.Goals as goal

pub loop-j-preserved : goal.loop-j-preserved
loop-j-preserved g c =
    let order = c.args.order.now.order in
    let here = ap (λ o. slice_get o c.loop-j.j) (sym c.loop-j.invariant.order) ∙ c.look-b.ensures.entry in
    let looked = ap (λ s. s.looks) c.look-b.ensures.counted in
    let before = c.loop-j.invariant.looks in
    record {
      order = ap (λ s. s.order) c.look-b.ensures.counted ∙ c.loop-j.invariant.order;
      looks = omega (arith, looked, before);
      none =
          one-more-fails order (λ y. must_stand_before c.args.a.now y) c.loop-j.j c.look-b.result here
          c.loop-j.invariant.none
          (sym c.must_stand_before.ensures ∙ c.if-must_stand_before.false);
    }
