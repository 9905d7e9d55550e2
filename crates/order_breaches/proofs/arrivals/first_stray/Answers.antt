use Rattle.order_breaches.proofs.Vocabulary.{◌<◌, length, slice_get, ap, sym, ◌∙◌, arith, refl, subst, IsStray}
use Rattle.order_breaches.proofs.Firsts.{one_more, none_at_all, none_in_nothing}
use Rattle.order_breaches.proofs.Coming.{nothing-came}
use Rattle.order_breaches.proofs.Looks.{no-looks, looks-here}
use Rattle.order_breaches.proofs.arrivals.first_stray.Goals as goal

pub loop-at-preserved : goal.loop-at-preserved
loop-at-preserved g c =
    let order = c.args.order.now.order in
    let here = ap (λ o. slice_get o c.loop-at.at) (sym c.loop-at.invariant.order) ∙ c.look-x.ensures.entry in
    let looked = ap (λ s. s.looks) c.look-x.ensures.counted in
    let before = c.loop-at.invariant.looks in
    let came = c.in_default.ensures.none order c.loop-at.at here c.loop-at.invariant.came refl in
    record {
      order = ap (λ s. s.order) c.look-x.ensures.counted ∙ c.loop-at.invariant.order;
      looks = omega (arith, looked, before);
      none = one_more order (IsStray c.args.shape.now order) c.loop-at.at c.look-x.result here c.loop-at.invariant.none came.1;
      came = came.0;
    }

pub returns-clause-none : goal.returns-clause-none
returns-clause-none g c _ =
    none_at_all c.args.order.now.order (IsStray c.args.shape.now c.args.order.now.order) c.loop-at.at
    (let l = c.loop-at-test.false in omega (arith, l, c.len-at-end.ensures)) c.loop-at.invariant.none

pub loop-at-init : goal.loop-at-init
loop-at-init g c = record {
  order = refl;
  looks = no-looks c.args.order.now.looks 0;
  none = none_in_nothing c.args.order.now.order (IsStray c.args.shape.now c.args.order.now.order);
  came = nothing-came c.args.shape.now c.args.order.now.order c.args.came.now c.requires.fresh;
}

pub returns-in-Some-clause-found : goal.returns-in-Some-clause-found
returns-in-Some-clause-found g c =
    let here = ap (λ o. slice_get o c.loop-at.at) (sym c.loop-at.invariant.order) ∙ c.look-x.ensures.entry in
    c.in-Some.ensures.found c.args.order.now.order c.loop-at.at here c.loop-at.invariant.none c.loop-at.invariant.came

pub returns-in-Some-clause-looks : goal.returns-in-Some-clause-looks
returns-in-Some-clause-looks g c =
    looks-here c.args.order.now.looks c.loop-at.at (length c.args.order.now.order) c.loop-at.order.looks
    c.look-x.new.self.looks c.loop-at.invariant.looks (ap (λ s. s.looks) c.look-x.ensures.counted)
    (subst (λ n. c.loop-at.at < n) c.len-at-end.ensures c.loop-at-test.true)
