use Rattle.machine_runs.proofs.Vocabulary.{arith, ◌≡◌, ◌+◌, List, length, refl, false, sym, ap, subst, ◌∙◌, has_ended, stall_count}
use Rattle.machine_runs.proofs.Vocabulary.{CoresExist, Choice, machine_effect}
use Rattle.tso_terms.specs.declared.choice.Outcome.TheVariants.{Stalled}
use Rattle.machine_runs.specs.inner.Observed.{Watched, none_left, over}
use Rattle.machine_runs.proofs.DriveLemmas.{Laws, SoFar, at-first, one-more, watched-more, driven-to-end, driven-through, no-stall, still-going}
use Rattle.machine_runs.proofs.driving.drive_machine.Goals as goal

pub loop-ended-preserved : goal.loop-ended-preserved
loop-ended-preserved g c =
    let m = c.loop-ended.machine in
    let i = c.loop-ended.invariant in
    let going : has_ended m.test m.state.flat ≡ false = sym i.over ∙ c.loop-ended-test.true in
    let laws : Laws = record {
      steps = c.attempts_lead_from_state_to_state.ensures;
      so_far = c.what_holds_so_far_on_either_bus.ensures;
      ends = c.runs_on_either_bus_stop_where_they_end.ensures;
      stalls = c.stalls_on_either_bus_change_nothing.ensures;
    } in
    let so_far =
    one-more c.args.machine.now m c.choose.new.machine (g.C.Choices.coming c.args.choices.now)
    (g.C.Choices.coming c.loop-ended.choices) (g.C.Choices.coming c.next.new.self) c.in-Some.choice
    c.loop-ended.used c.loop-ended.stalled 0 laws i.so_far c.in-Some.ensures c.in_ok-outcome.ensures.after going c.in_ok-outcome.ensures.answer
    (sym (no-stall c.in_ok-outcome.outcome c.in-Committed.is) ∙ ap stall_count c.in_ok-outcome.ensures.outcome) in
    record {
      left = omega (arith, i.left, ap length c.in-Some.ensures);
      cores = (subst (CoresExist (length c.args.machine.now.test.programs)) c.in-Some.ensures i.cores).1;
      fewer = omega (arith, i.fewer);
      over = c.is_ended-ended-in-Committed.ensures ∙ rw so_far.failed refl;
      so_far =
          subst (SoFar c.args.machine.now c.choose.new.machine (g.C.Choices.coming c.args.choices.now)
          (g.C.Choices.coming c.next.new.self) (c.loop-ended.used + 1))
          (let none : c.loop-ended.stalled + 0 ≡ c.loop-ended.stalled = omega arith in none) so_far;
      watches = c.in_ok-outcome.ensures.watches;
      watched =
          watched-more g.O.Observer.makes c.args.observer.now c.loop-ended.observer c.choose.new.self c.args.machine.now
          m c.choose.new.machine (g.C.Choices.coming c.args.choices.now)
          (g.C.Choices.coming c.loop-ended.choices) (g.C.Choices.coming c.next.new.self) c.in-Some.choice
          c.loop-ended.used i.watched c.in-Some.ensures c.in_ok-outcome.ensures.after going
          c.in_ok-outcome.ensures.makes;
    }

pub loop-ended-preserved-in-Stalled : goal.loop-ended-preserved-in-Stalled
loop-ended-preserved-in-Stalled g c =
    let m = c.loop-ended.machine in
    let i = c.loop-ended.invariant in
    let going : has_ended m.test m.state.flat ≡ false = sym i.over ∙ c.loop-ended-test.true in
    let laws : Laws = record {
      steps = c.attempts_lead_from_state_to_state.ensures;
      so_far = c.what_holds_so_far_on_either_bus.ensures;
      ends = c.runs_on_either_bus_stop_where_they_end.ensures;
      stalls = c.stalls_on_either_bus_change_nothing.ensures;
    } in
    let stalls : (machine_effect m c.in-Some.choice).effect.outcome ≡ Stalled c.in-Stalled.field-0 = sym c.in_ok-outcome.ensures.outcome ∙ c.in-Stalled.is in
    record {
      left = omega (arith, i.left, ap length c.in-Some.ensures);
      cores = (subst (CoresExist (length c.args.machine.now.test.programs)) c.in-Some.ensures i.cores).1;
      fewer = omega (arith, i.fewer);
      over = i.over ∙ sym (still-going m c.choose.new.machine c.in-Some.choice _ laws i.so_far.possible c.in_ok-outcome.ensures.after stalls);
      so_far =
          one-more c.args.machine.now m c.choose.new.machine (g.C.Choices.coming c.args.choices.now)
          (g.C.Choices.coming c.loop-ended.choices) (g.C.Choices.coming c.next.new.self) c.in-Some.choice
          c.loop-ended.used c.loop-ended.stalled 1 laws i.so_far c.in-Some.ensures c.in_ok-outcome.ensures.after going
          c.in_ok-outcome.ensures.answer (sym (ap stall_count stalls));
      watches = c.in_ok-outcome.ensures.watches;
      watched =
          watched-more g.O.Observer.makes c.args.observer.now c.loop-ended.observer c.choose.new.self c.args.machine.now
          m c.choose.new.machine (g.C.Choices.coming c.args.choices.now)
          (g.C.Choices.coming c.loop-ended.choices) (g.C.Choices.coming c.next.new.self) c.in-Some.choice
          c.loop-ended.used i.watched c.in-Some.ensures c.in_ok-outcome.ensures.after going
          c.in_ok-outcome.ensures.makes;
    }

pub returns-clause-drives : goal.returns-clause-drives
returns-clause-drives g c =
    let m = c.loop-ended.machine in
    let i = c.loop-ended.invariant in
    let laws : Laws = record {
      steps = c.attempts_lead_from_state_to_state.ensures;
      so_far = c.what_holds_so_far_on_either_bus.ensures;
      ends = c.runs_on_either_bus_stop_where_they_end.ensures;
      stalls = c.stalls_on_either_bus_change_nothing.ensures;
    } in
    driven-to-end c.args.machine.now m (g.C.Choices.coming c.args.choices.now) (g.C.Choices.coming c.loop-ended.choices)
    c.loop-ended.used c.loop-ended.stalled laws i.so_far
    (sym i.over ∙ c.loop-ended-test.false)

pub returns-clause-watched : goal.returns-clause-watched
returns-clause-watched g c =
    c.loop-ended.invariant.watched.on c.loop-ended.observer c.loop-ended.machine
    (over c.loop-ended.observer c.loop-ended.machine (c.loop-ended.used + 1) (g.C.Choices.coming c.loop-ended.choices)
    (sym c.loop-ended.invariant.over ∙ c.loop-ended-test.false))

pub returns-in_default-clause-watched : goal.returns-in_default-clause-watched
returns-in_default-clause-watched g c =
    let o = c.loop-ended.observer in
    let m = c.loop-ended.machine in
    let number = c.loop-ended.used + 1 in
    c.loop-ended.invariant.watched.on o m
    (subst (λ (l : List Choice). Watched g.O.Observer.makes o m number l o m) (sym c.in_default.ensures.0) (none_left o m number))

pub loop-ended-init : goal.loop-ended-init
loop-ended-init g c = record {
  left = omega arith;
  cores = c.requires.cores;
  fewer = omega arith;
  over = c.is_ended-ended.ensures ∙ rw c.requires.fresh refl;
  so_far = at-first c.args.machine.now (g.C.Choices.coming c.args.choices.now) c.requires.fresh c.requires.possible;
  watches = c.requires.watches;
  watched = record { on = λ last end watched. watched };
}

pub choose-requires-clause-core : goal.choose-requires-clause-core
choose-requires-clause-core g c =
    rw (sym c.loop-ended.invariant.so_far.test) at
    (subst (CoresExist (length c.args.machine.now.test.programs)) c.in-Some.ensures c.loop-ended.invariant.cores).0

pub choose-requires-clause-watches : goal.choose-requires-clause-watches
choose-requires-clause-watches g c = c.loop-ended.invariant.watches

pub returns-in_default-clause-drives : goal.returns-in_default-clause-drives
returns-in_default-clause-drives g c =
    driven-through c.args.machine.now c.loop-ended.machine (g.C.Choices.coming c.args.choices.now)
    (g.C.Choices.coming c.loop-ended.choices) c.loop-ended.used c.loop-ended.stalled c.loop-ended.invariant.so_far
    c.in_default.ensures.0
