use Rattle.found_reasons.proofs.Vocabulary.{known_of, filter, not, refl, ap, ◌∙◌}
use Rattle.found_reasons.proofs.Filtering.{picked, passed}
use Rattle.basic_laws.specs.Types.{R}
use Rattle.std.proofs.lemmas.Result.{IfOk-weaker}
use Rattle.refutation_laws.specs.inner.Orders as spec
use Rattle.execution_check.proofs.Growing.{all-made}
use Rattle.found_reasons.proofs.Rowing.{order-met}
use Rattle.std.proofs.Common.{rules}
use Rattle.found_reasons.proofs.order.make_order.Goals as goal
use Rattle.found_reasons.proofs.order.make_order.Goals.{then-ne+in_ok-push, else-ne}

pub loop-e-preserved : goal.loop-e-preserved
loop-e-preserved c = elim c.if-ne.branch [
  | then-ne+in_ok-push w ↦
      picked (λ e. not (spec.is_load_part e)) c.args.events.now c.loop-e.e-index _ c.loop-e.others.items c.if-ne.others.items _ c.loop-e-test.true
      (ap (λ v. v.items) w.others-is ∙ w.in_ok-push.ensures.items) (search rules) c.loop-e.invariant
  | else-ne w ↦
      passed (λ e. not (spec.is_load_part e)) c.args.events.now c.loop-e.e-index
      record { core = record { 0 = 0 }; place = 0; kind = R; loc = record { 0 = 0 }; value = 0 } c.loop-e.others.items c.if-ne.others.items _ c.loop-e-test.true
      (ap (λ v. v.items) w.others-is) (search rules) c.loop-e.invariant
]

pub returns : goal.returns
returns c =
    let made = all-made (filter (λ e. not (spec.is_load_part e))) refl c.args.events.now c.loop-e.e-index c.loop-e.others.items _ c.loop-e-test.false
    c.loop-e.invariant in
    IfOk-weaker c.order_along.result _ _
    (λ order e. order-met c.args.model c.args.test.now (known_of c.args.answers.now) c.know_limits.ensures c.requires.full c.requires.sound c.requires.allowed
    c.args.events.now c.loop-e.others.items c.deref.result.now c.in_ok-sorted.sorted.row.items c.in_ok-sorted.sorted.rest.items c.deref-2.result.now
    order.items c.requires.events made c.deref.ensures.value c.in_ok-sorted.ensures c.deref-2.ensures.value e) c.order_along.ensures
