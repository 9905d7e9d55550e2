use Rattle.explorer.proofs.Vocabulary.{◌+◌, subst, sym, ap, ◌∙◌, arith, refl, has_ended, AreFinalsOf}
use Rattle.explorer.proofs.Finals.{cores-at, finals-none, finals-skip, finals-more}
use Rattle.explorer.proofs.final_states.final_states.Goals as goal
use Rattle.explorer.proofs.final_states.final_states.Goals.{then-has_ended+in_ok-final_state+in_ok-push, else-has_ended}

pub loop-at-init : goal.loop-at-init
loop-at-init c = record {
  finals =
      subst (λ z.
      AreFinalsOf c.args.plan.now.depth c.args.plan.now.test.now c.args.plan.now.hidden.now c.args.found.now.states.keys 0 z)
      (sym c.new-final_states.ensures.items)
      (finals-none c.args.plan.now.depth c.args.plan.now.test.now c.args.plan.now.hidden.now c.args.found.now.states.keys);
  cores = c.in_ok-state.ensures.cores;
}

pub unpack-requires : goal.unpack-requires
unpack-requires c = c.loop-at.invariant.cores ∙ sym (cores-at c.args.plan.now.test.now _ c.loop-at.at c.index.result.now c.requires.cores c.index.ensures)

pub has_ended-requires : goal.has_ended-requires
has_ended-requires c = c.in_ok-unpack.ensures.cores ∙ c.loop-at.invariant.cores

pub loop-at-preserved : goal.loop-at-preserved
loop-at-preserved c = record {
  finals = elim c.if-has_ended.branch [
    | then-has_ended+in_ok-final_state+in_ok-push w ↦
        subst (λ z. AreFinalsOf c.args.plan.now.depth c.args.plan.now.test.now c.args.plan.now.hidden.now c.args.found.now.states.keys (c.loop-at.at + 1) z)
        (sym (ap (λ z. z.items) w.final_states-is ∙ w.in_ok-push.ensures.items))
        (finals-more c.dead_registers_change_nothing.ensures c.args.plan.now.depth c.args.plan.now.test.now
        c.args.plan.now.hidden.now c.args.found.now.states.keys c.loop-at.at c.loop-at.final_states.items
        w.in_ok-final_state.field-0 c.len-at-end.ensures.unique c.requires.cores c.loop-at.invariant.finals (record {
          at = c.loop-at.at;
          kept = c.index.result.now;
          within = omega arith;
          stands = c.index.ensures;
          ended = ap (has_ended c.args.plan.now.test.now) (sym c.in_ok-unpack.ensures.value) ∙ sym c.has_ended.ensures ∙ w.if-has_ended.true;
          made = w.in_ok-final_state.ensures c.index.result.now c.index.ensures;
        }) refl)
    | else-has_ended w ↦
        subst (λ z.
        AreFinalsOf c.args.plan.now.depth c.args.plan.now.test.now c.args.plan.now.hidden.now c.args.found.now.states.keys (c.loop-at.at + 1) z)
        (sym (ap (λ z. z.items) w.final_states-is))
        (finals-skip c.args.plan.now.depth c.args.plan.now.test.now c.args.plan.now.hidden.now
        c.args.found.now.states.keys c.loop-at.at c.loop-at.final_states.items c.index.result.now
        c.loop-at.invariant.finals
        c.index.ensures (ap (has_ended c.args.plan.now.test.now) (sym c.in_ok-unpack.ensures.value) ∙ sym c.has_ended.ensures ∙ w.if-has_ended.false))
  ];
  cores = c.in_ok-unpack.ensures.cores ∙ c.loop-at.invariant.cores;
}
