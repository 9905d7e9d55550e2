use Rattle.explorer.proofs.Vocabulary.{[], inl, sym, ◌∙◌, subst, HaveCores, AreLinked, IsSettled, state_of_snapshot}
use Rattle.explorer.proofs.Searching.{cores-none, no-links, first-leads, first-covered}
use Rattle.explorer.proofs.found.begin.Goals as goal

pub returns-clause-found : goal.returns-clause-found
returns-clause-found c =
    let d = c.args.plan.now.depth in
    let t = c.args.plan.now.test.now in
    let hidden = c.args.plan.now.hidden.now in
    let none = c.new.ensures.empty in
    let settled =
    subst (λ z.
    IsSettled d t z (state_of_snapshot c.run_ahead.new.state) c.new-choices.result.items c.run_ahead.new.choices.items)
    c.in_ok-state.ensures.value c.in_ok-run_ahead.ensures.settled in
    c.in_ok-keep.ensures.found c.args.plan.now (record {
      cores = subst (HaveCores t) (sym none) (cores-none t);
      linked =
          subst (λ z. AreLinked d t hidden z c.new-2.result.items) (sym none)
          (subst (AreLinked d t hidden []) (sym c.new-2.ensures.items) (no-links d t hidden));
      current = c.in_ok-current.ensures.cores;
      room = c.forget.ensures.cores ∙ c.in_ok-run_ahead.ensures.cores;
    }) (inl (
      none,
      first-leads d t hidden (state_of_snapshot c.run_ahead.new.state) (state_of_snapshot c.forget.new.state)
          c.new-choices.result.items c.run_ahead.new.choices.items c.new-4.result.items
          c.new-choices.ensures.items settled c.forget.ensures.value c.new-4.ensures.items,
    ))

pub returns-clause-covered : goal.returns-clause-covered
returns-clause-covered c =
    let d = c.args.plan.now.depth in
    let t = c.args.plan.now.test.now in
    let hidden = c.args.plan.now.hidden.now in
    let settled =
    subst (λ z.
    IsSettled d t z (state_of_snapshot c.run_ahead.new.state) c.new-choices.result.items c.run_ahead.new.choices.items)
    c.in_ok-state.ensures.value c.in_ok-run_ahead.ensures.settled in
    first-covered d t hidden (state_of_snapshot c.run_ahead.new.state) (state_of_snapshot c.forget.new.state)
    c.new-choices.result.items c.run_ahead.new.choices.items c.new-4.result.items c.new-choices.ensures.items settled
    c.forget.ensures.value c.args.plan.now.alike.items c.keep.new.found.states.keys c.in_ok-keep.ensures.among
