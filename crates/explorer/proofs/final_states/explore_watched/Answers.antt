use Rattle.explorer.proofs.Vocabulary.{ℕ, ◌≤◌, ◌≡◌, Bool, List, Litmus, arith, AreReached, AreDistinct, HaveEveryEnd, HasMoreStates}
use Rattle.explorer.proofs.Counting.{more-states}
use Rattle.explorer.proofs.Finals.{finals-reached, finals-complete, went-by}
use Rattle.explorer.proofs.final_states.explore_watched.Goals as goal
use Rattle.explorer.proofs.final_states.explore_watched.Goals.{then-kept-limit, else-kept-limit}

pub returns-clause-reached : goal.returns-clause-reached
returns-clause-reached g c =
    went-by
    (λ (d : ℕ) (t : Litmus) (hidden : List (List Bool)). AreReached t d c.in_ok-final_states.final_states.items) _
    c.args.depth _ c.args.test.now _ c.args.hidden.now
    c.in_ok-plan.ensures.depth c.in_ok-plan.ensures.test c.in_ok-plan.ensures.hidden (
    finals-reached c.dead_registers_change_nothing.ensures c.in_ok-plan.plan.depth c.in_ok-plan.plan.test.now
    c.in_ok-plan.plan.hidden.now c.search_on-searched.new.found.states.keys _ c.in_ok-final_states.final_states.items
    c.in_ok-final_states.ensures
    )

pub returns-clause-once : goal.returns-clause-once
returns-clause-once g c =
    went-by
    (λ (d : ℕ) (t : Litmus) (hidden : List (List Bool)). AreDistinct hidden c.in_ok-final_states.final_states.items) _
    c.args.depth _ c.args.test.now _ c.args.hidden.now
    c.in_ok-plan.ensures.depth c.in_ok-plan.ensures.test c.in_ok-plan.ensures.hidden c.in_ok-final_states.ensures.once

pub returns-clause-complete : goal.returns-clause-complete
returns-clause-complete g c = λ whole.
    went-by (λ (d : ℕ) (t : Litmus) (hidden : List (List Bool)).
    HaveEveryEnd t d hidden c.in_ok-final_states.final_states.items)
    _ c.args.depth _ c.args.test.now _ c.args.hidden.now
    c.in_ok-plan.ensures.depth c.in_ok-plan.ensures.test c.in_ok-plan.ensures.hidden (
    finals-complete c.dead_registers_change_nothing.ensures c.alike_cores_are_exchangeable.ensures
    c.partly_closed_states_miss_none.ensures c.runs_stop_where_they_end.ensures
    c.in_ok-plan.plan.depth c.in_ok-plan.plan.test.now c.in_ok-plan.plan.hidden.now c.in_ok-plan.plan.alike.items
    c.search_on-searched.new.found.states.keys c.in_ok-final_states.final_states.items c.know_limits.ensures (record {
      alike = c.in_ok-plan.ensures.plan.alike;
      cores = c.in_ok-searched.ensures.found.cores;
      whole = c.in_ok-searched.ensures.whole (let n = c.len-kept.ensures.len in let l : c.len-kept.result ≤ c.args.limit = elim c.if-kept-limit.branch [
        | then-kept-limit w ↦ absurd (let q = w.extent-is in let z : ⊥ = cc in z)
        | else-kept-limit w ↦ w.if-kept-limit.false
      ] in omega (arith, n, l));
    }) c.in_ok-final_states.ensures
    )

pub returns-clause-kept : goal.returns-clause-kept
returns-clause-kept g c = λ fewer l.
    let n = c.len-kept.ensures.len in
    went-by (λ (d : ℕ) (t : Litmus) (hidden : List (List Bool)). HasMoreStates t d fewer) _ c.args.depth _ c.args.test.now _ c.args.hidden.now
    c.in_ok-plan.ensures.depth c.in_ok-plan.ensures.test c.in_ok-plan.ensures.hidden (
    more-states c.dead_registers_change_nothing.ensures c.alike_cores_are_exchangeable.ensures c.in_ok-plan.plan.depth
    c.in_ok-plan.plan.test.now c.in_ok-plan.plan.hidden.now
    c.search_on-searched.new.found.states.keys c.search_on-searched.new.found.links.items fewer
    c.len-kept.ensures.unique c.in_ok-searched.ensures.found.cores c.in_ok-searched.ensures.found.linked
    (omega (arith, l, n))
    )
