use Rattle.explorer.proofs.Vocabulary.{◌∙◌, refl, sym, state_of_snapshot, stall-why, takes-effect}
use Rattle.explorer.proofs.Appending.{none-appended, one-appended}
use Rattle.explorer.proofs.running_on.make.Goals as goal

pub returns-then-has_stalled-clause-made : goal.returns-then-has_stalled-clause-made
returns-then-has_stalled-clause-made c =
    let w = stall-why c.in_ok-outcome.outcome (sym c.has_stalled.ensures ∙ c.if-has_stalled.true) in
    none-appended _ _ _ _ _ _
    (sym (c.in_ok-outcome.ensures.after
    ∙ (c.stalls_change_nothing.ensures c.args.test.now c.args.depth (state_of_snapshot c.args.state.now) c.args.choice
    w.0 (sym c.in_ok-outcome.ensures.outcome ∙ w.1)).same))
    refl
