use Rattle.explorer.proofs.Vocabulary.{length, length-append, ◌∷◌, [], ap, subst, refl, arith, program_of, hidden_of, AreDead}
use Rattle.explorer.specs.inner.Coming.{AreComing}
use Rattle.explorer.proofs.Planning.{plan-none, plan-more}
use Rattle.explorer.proofs.plan.plan_of.Goals as goal

pub loop-core-init : goal.loop-core-init
loop-core-init c = record {
  count = ap length c.new-dead.ensures.items;
  coming_count = ap length c.new-coming.ensures.items;
  coming = plan-none (λ k rows. AreComing (program_of c.args.test.now k) rows.items) c.new-coming.result.items c.new-coming.ensures.items;
  each =
      plan-none (λ k rows. AreDead (program_of c.args.test.now k) (hidden_of c.args.hidden.now k) rows.items)
      c.new-dead.result.items c.new-dead.ensures.items;
}

pub loop-core-preserved : goal.loop-core-preserved
loop-core-preserved c = record {
  count =
      let a = ap length c.in_ok-push.ensures.items in
      let b = length-append c.loop-core.dead.items (c.in_ok-dead_registers.field-0 ∷ []) in
      let n = c.loop-core.invariant.count in
      omega (arith, a, b, n);
  coming_count =
      let a = ap length c.in_ok-push-2.ensures.items in
      let b = length-append c.loop-core.coming.items (c.in_ok-accesses_to_come.field-0 ∷ []) in
      let n = c.loop-core.invariant.coming_count in
      omega (arith, a, b, n);
  coming =
      plan-more (λ k rows. AreComing (program_of c.args.test.now k) rows.items)
      c.loop-core.coming.items c.loop-core.core c.in_ok-accesses_to_come.field-0 c.push-in-loop-core.new.self.items
      c.loop-core.invariant.coming_count c.in_ok-push-2.ensures.items
      (subst (λ z. AreComing z c.in_ok-accesses_to_come.field-0.items) c.program-in-loop-core.ensures.value c.in_ok-accesses_to_come.ensures)
      c.loop-core.invariant.coming;
  each =
      plan-more (λ k rows. AreDead (program_of c.args.test.now k) (hidden_of c.args.hidden.now k) rows.items)
      c.loop-core.dead.items c.loop-core.core c.in_ok-dead_registers.field-0 c.push.new.self.items
      c.loop-core.invariant.count c.in_ok-push.ensures.items
      (subst (λ z. AreDead z (hidden_of c.args.hidden.now c.loop-core.core) c.in_ok-dead_registers.field-0.items) c.program.ensures.value
      (subst (λ z. AreDead c.program.result.now z c.in_ok-dead_registers.field-0.items) c.hidden_of-hidden.ensures c.in_ok-dead_registers.ensures))
      c.loop-core.invariant.each;
}

pub returns : goal.returns
returns c =
    let l = c.loop-core-test.false in
    let m = c.loop-core.auto.core-end in
    let n = c.cores-core-end.ensures.value in
    let k = c.loop-core.invariant.count in
    record {
      plan = record {
        count = omega (arith, l, m, n, k);
        each = c.loop-core.invariant.each;
        coming = c.loop-core.invariant.coming;
        alike = c.in_ok-alike.ensures;
      };
      test = refl;
      depth = refl;
      hidden = refl;
    }
