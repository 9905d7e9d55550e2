use Rattle.explorer.proofs.Vocabulary.{◌∙◌, inr, on-ok, state_of_packed, state_of_snapshot}
use Rattle.explorer.proofs.Appending.{all-appended, appended-leads}
use Rattle.explorer.proofs.Linking.{kept-at}
use Rattle.explorer.proofs.running_on.run_on_from.Goals as goal

pub returns-clause-found : goal.returns-clause-found
returns-clause-found c =
    let plan = c.args.plan.now in
    let h = c.requires.found in
    let kept = c.index.result.now in
    on-ok c.keep.result (λ found. found plan
    (record { cores = h.cores; linked = h.linked; current = h.current; room = c.forget.ensures.cores ∙ c.in_ok-take_turns-2.ensures.cores })
    (inr (
      kept,
      c.index.ensures,
      appended-leads plan.depth plan.test.now plan.hidden.now (state_of_packed kept)
          (state_of_snapshot c.unpack.new.state) (state_of_snapshot c.take_turns-2.new.state)
          (state_of_snapshot c.forget.new.state) _ _ _ c.clear.ensures.items c.clear-2.ensures.items c.in_ok-unpack.ensures.value
          (all-appended _ _ _ _ _ _ _ _ c.in_ok-take_turns.ensures.made c.in_ok-take_turns-2.ensures.made) c.forget.ensures.value,
    ))) c.keep.ensures.found
