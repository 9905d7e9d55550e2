use Rattle.explorer.proofs.Vocabulary.{◌≡◌, ◌+◌, drop, drop-end, length, map, ap, sym, ◌∙◌, subst, arith, start, registers_in, CoresExist}
use Rattle.explorer.proofs.Vocabulary.{state_after, state_of_packed, state_of_snapshot, LeadsToForgotten, IsPath, GoBack}
use Rattle.explorer.proofs.Ending.{registers-map, next-choice}
use Rattle.explorer.proofs.Linking.{goes-back, get-some, leads-cores, leads-after}
use Rattle.explorer.proofs.final_states.final_state.Goals as goal

pub path-requires : goal.path-requires
path-requires c = record {
  at = let a = c.requires.at in let n = c.requires.found.linked.count in let l = ap length c.deref.ensures.value in omega (arith, a, n, l);
  back =
      subst GoBack (sym c.deref.ensures.value)
      (goes-back c.args.plan.now.depth c.args.plan.now.test.now c.args.plan.now.hidden.now c.args.found.now.states.keys
      c.args.found.now.links.items c.requires.found.linked);
}

pub act-requires-clause-chosen : goal.act-requires-clause-chosen
act-requires-clause-chosen c =
    (subst (CoresExist (length c.args.plan.now.test.now.programs))
    (next-choice c.deref-choice-items.result.now c.loop-choice.choice-index _ c.loop-choice-test.true)
    c.loop-choice.invariant.later).0

pub loop-choice-init : goal.loop-choice-init
loop-choice-init c =
    let s = get-some c.args.found.now.states.keys c.args.at c.requires.at in
    let path : IsPath c.args.found.now.links.items c.args.at c.in_ok-choices.choices.items =
    subst (λ z. IsPath z c.args.at c.in_ok-choices.choices.items) c.deref.ensures.value c.in_ok-choices.ensures in
    let p = path c.args.plan.now.depth c.args.plan.now.test.now c.args.plan.now.hidden.now c.args.found.now.states.keys s.0 c.requires.found.linked s.1 in
    record {
      count = c.in_ok-state.ensures.cores;
      later = subst (CoresExist (length c.args.plan.now.test.now.programs)) (sym c.deref-choice-items.ensures.value)
          (leads-cores c.args.plan.now.depth c.args.plan.now.test.now (start c.args.plan.now.test.now) c.in_ok-choices.choices.items p.last p.leads);
      state = ap (λ z. state_after c.args.plan.now.test.now c.args.plan.now.depth z c.deref-choice-items.result.now) c.in_ok-state.ensures.value;
    }

pub loop-choice-preserved : goal.loop-choice-preserved
loop-choice-preserved c =
    let next = next-choice c.deref-choice-items.result.now c.loop-choice.choice-index _ c.loop-choice-test.true in
    record {
      count = c.in_ok-act.ensures.cores;
      later = (subst (CoresExist (length c.args.plan.now.test.now.programs)) next c.loop-choice.invariant.later).1;
      state =
          ap (λ z.
          state_after c.args.plan.now.test.now c.args.plan.now.depth z (drop (c.loop-choice.choice-index + 1) c.deref-choice-items.result.now))
          c.in_ok-act.ensures.after
          ∙ ap (state_after c.args.plan.now.test.now c.args.plan.now.depth (state_of_snapshot c.loop-choice.state)) (sym next) ∙ c.loop-choice.invariant.state;
    }

pub returns : goal.returns
returns c = λ s at.
    let path : IsPath c.args.found.now.links.items c.args.at c.in_ok-choices.choices.items =
    subst (λ z. IsPath z c.args.at c.in_ok-choices.choices.items) c.deref.ensures.value c.in_ok-choices.ensures in
    let p : LeadsToForgotten c.args.plan.now.depth c.args.plan.now.test.now c.args.plan.now.hidden.now
    (start c.args.plan.now.test.now) c.in_ok-choices.choices.items (state_of_packed s) =
    path c.args.plan.now.depth c.args.plan.now.test.now c.args.plan.now.hidden.now c.args.found.now.states.keys s c.requires.found.linked at in
    let l = c.loop-choice-test.false in
    let m = c.loop-choice.auto.choice-index-end in
    let same : state_of_snapshot c.loop-choice.state ≡ p.last =
    ap (state_after c.args.plan.now.test.now c.args.plan.now.depth (state_of_snapshot c.loop-choice.state))
    (sym (drop-end c.deref-choice-items.result.now c.loop-choice.choice-index (omega (arith, l, m))))
    ∙ c.loop-choice.invariant.state
    ∙ ap (state_after c.args.plan.now.test.now c.args.plan.now.depth (start c.args.plan.now.test.now)) c.deref-choice-items.ensures.value
    ∙ leads-after c.args.plan.now.depth c.args.plan.now.test.now (start c.args.plan.now.test.now) c.in_ok-choices.choices.items p.last p.leads in
    record {
      last = p.last;
      leads = p.leads;
      kept_is = p.kept_is;
      registers_are =
          sym (c.in_ok-registers.ensures
          ∙ ap (λ z. map (λ q. q.registers) z) c.deref-2.ensures.value
          ∙ registers-map c.loop-choice.state.cores.items
          ∙ ap registers_in same);
      memory_is = ap (λ z. z.memory) (sym same) ∙ ap (λ v. v.items) (sym c.replace.ensures.value);
    }
