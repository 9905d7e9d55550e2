use Rattle.flat_machine.proofs.Vocabulary.{◌≡◌, false, true, length, ap, sym, subst, ◌∙◌, State, has_ended, CoresExist, state_of_snapshot}
use Rattle.flat_machine.proofs.Choosing.{stall-why}
use Rattle.flat_machine.proofs.Onward.{one-more, over, as-many-words}
use Rattle.flat_machine.proofs.driving.drive.Goals as goal

pub loop-ended-preserved : goal.loop-ended-preserved
loop-ended-preserved g c =
    let i = c.loop-ended.invariant in
    let t = c.args.test.now in
    let now : State = state_of_snapshot c.loop-ended.state in
    let after = c.in_ok-outcome.ensures.after in
    let going : has_ended t now ≡ false = sym i.over ∙ c.loop-ended-test.true in
    let why = stall-why c.in_ok-outcome.outcome (sym c.has_stalled.ensures ∙ c.if-not-has_stalled.false) in
    let stays = (c.stalls_change_nothing.ensures t c.args.depth now c.in-Some.choice why.0 (sym c.in_ok-outcome.ensures.outcome ∙ why.1)).same in
    record {
      cores = c.in_ok-outcome.ensures.cores;
      words = as-many-words t c.args.depth now c.in-Some.choice (state_of_snapshot c.act.new.state) after ∙ i.words;
      chosen = (subst (CoresExist (length t.programs)) c.in-Some.ensures i.chosen).1;
      over = i.over ∙ ap (has_ended t) (sym (after ∙ stays));
      on_its_way =
          one-more t c.args.depth (state_of_snapshot c.args.state.now) (g.C.Choices.coming c.args.choices.now) now
          (g.C.Choices.coming c.loop-ended.choices)
          c.in-Some.choice (g.C.Choices.coming c.next.new.self) (state_of_snapshot c.act.new.state) i.on_its_way going c.in-Some.ensures after;
    }

pub returns-clause-ended : goal.returns-clause-ended
returns-clause-ended g c =
    let i = c.loop-ended.invariant in
    let ended : has_ended c.args.test.now (state_of_snapshot c.loop-ended.state) ≡ true = sym i.over ∙ c.loop-ended-test.false in
    (over c.args.test.now c.args.depth (state_of_snapshot c.args.state.now) (g.C.Choices.coming c.args.choices.now)
    (state_of_snapshot c.loop-ended.state) (g.C.Choices.coming c.loop-ended.choices) i.on_its_way ended).0

pub returns-clause-state : goal.returns-clause-state
returns-clause-state g c =
    let i = c.loop-ended.invariant in
    let ended : has_ended c.args.test.now (state_of_snapshot c.loop-ended.state) ≡ true = sym i.over ∙ c.loop-ended-test.false in
    (over c.args.test.now c.args.depth (state_of_snapshot c.args.state.now) (g.C.Choices.coming c.args.choices.now)
    (state_of_snapshot c.loop-ended.state) (g.C.Choices.coming c.loop-ended.choices) i.on_its_way ended).1
