use Rattle.explorer.proofs.Vocabulary.{◌≡◌, ℕ, [], ◌∷◌, ◌++◌, sym, ap, ◌∙◌, subst, Litmus, after_choice, effect_of, stall_count}
use Rattle.explorer.proofs.Vocabulary.{AreAllAlike, state_of_snapshot, IsArranged, stall-why, takes-effect}
use Rattle.explorer.proofs.Linking.{reached-is}
use Rattle.explorer.proofs.Mapping.{pairs-within}
use Rattle.explorer.proofs.reached.reach.Goals as goal

pub returns-then-has_stalled-clause-stalled : goal.returns-then-has_stalled-clause-stalled
returns-then-has_stalled-clause-stalled c = λ q.
    let w = stall-why c.in_ok-outcome.outcome (sym c.has_stalled.ensures ∙ c.if-has_stalled.true) in
    subst (λ z. after_choice c.args.plan.now.test.now c.args.plan.now.depth z c.args.choice ≡ z) c.in_ok-overwrite.ensures.value
    (c.stalls_change_nothing.ensures c.args.plan.now.test.now c.args.plan.now.depth
    (state_of_snapshot c.overwrite.new.state) c.args.choice w.0 (sym c.in_ok-outcome.ensures.outcome ∙ w.1)).same

pub returns-clause-reached : goal.returns-clause-reached
returns-clause-reached c = λ q.
    let t : Litmus = c.args.plan.now.test.now in
    let d : ℕ = c.args.plan.now.depth in
    let e = c.in_ok-overwrite.ensures.value in
    reached-is d t c.args.plan.now.hidden.now c.args.plan.now.alike.items (state_of_snapshot c.args.snapshot.now)
    (state_of_snapshot c.act.new.state) (state_of_snapshot c.run_ahead.new.state) (state_of_snapshot c.forget.new.state)
    (state_of_snapshot c.arrange.new.state)
    c.args.choice _ _ c.clear-2.new.self.items c.arrange.new.exchanges.items c.requires.plan.alike c.requires.chosen
    (subst (λ z. stall_count (effect_of t d z c.args.choice).outcome ≡ 0) e
    (subst (λ o. stall_count o ≡ 0) c.in_ok-outcome.ensures.outcome (takes-effect _ (sym c.has_stalled.ensures ∙ c.if-has_stalled.false))))
    (c.in_ok-outcome.ensures.after ∙ ap (λ z. after_choice t d z c.args.choice) e)
    (c.in_ok-push.ensures.items ∙ ap (λ z. z ++ c.args.choice ∷ []) c.clear.ensures.items)
    c.in_ok-run_ahead.ensures.settled c.forget.ensures.value c.clear-2.ensures.items
    (subst (λ z.
    IsArranged z (state_of_snapshot c.forget.new.state) (state_of_snapshot c.arrange.new.state)
    c.clear-2.new.self.items c.arrange.new.exchanges.items)
    c.deref.ensures.value c.in_ok-arrange.ensures.arranged)

pub arrange-requires : goal.arrange-requires
arrange-requires c =
    pairs-within c.args.plan.now.test.now c.args.plan.now.hidden.now _ _
    (subst (AreAllAlike c.args.plan.now.test.now c.args.plan.now.hidden.now) (sym c.deref.ensures.value) c.requires.plan.alike)
    (c.forget.ensures.cores ∙ c.in_ok-run_ahead.ensures.cores)

pub returns-then-is_idle-clause-room : goal.returns-then-is_idle-clause-room
returns-then-is_idle-clause-room c = c.requires.room

pub returns-then-has_stalled-clause-room : goal.returns-then-has_stalled-clause-room
returns-then-has_stalled-clause-room c = c.in_ok-outcome.ensures.cores

pub returns-clause-room : goal.returns-clause-room
returns-clause-room c = c.in_ok-arrange.ensures.cores ∙ (c.forget.ensures.cores ∙ c.in_ok-run_ahead.ensures.cores)
