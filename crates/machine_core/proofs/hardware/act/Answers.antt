use Rattle.machine_core.proofs.Vocabulary.{◌≡◌, ap, sym, length, ◌∙◌, refl, subst, slice_get, None, Some, Ok, program_of, stalled, NoAccess}
use Rattle.machine_core.proofs.Vocabulary.{step_access, drain_access, Step, Drain, Stalled, words_of, Unused, core_state, pending_in}
use Rattle.machine_core.proofs.Vocabulary.{own_access, step_by, effect_of_drain, SucceedsUnlessCommitting, KnownLocation, action_of, Choice}
use Rattle.machine_core.proofs.Vocabulary.{Core, core_in}
use Rattle.tso_terms.specs.declared.choice.Stall.TheVariants as stall
use Rattle.multiprocessor.proofs.ActedLemmas.{acts-stalls}
use Rattle.machine_core.proofs.ChoiceEffects.{access_of-step, access_of-done, access_of-drain, effect_in-step, effect_in-done}
use Rattle.machine_core.proofs.ChoiceEffects.{effect_in-drain, may-make, whole-done, IfOk-Makes, PartsFitTest-next, IsCore-at, within-cores}
use Rattle.multiprocessor.proofs.Finishing.{All-got}
use Rattle.machine_core.proofs.StepCompletions.{place-within}
use Rattle.machine_core.proofs.Undoing.{acts-holder, undone}
use Rattle.machine_core.proofs.hardware.act.Goals as goal

-- the choice is of the core that it names
step-of : (choice : Choice) (x core : Core) → choice ≡ Step x → core ≡ core_in choice → choice ≡ Step core
step-of choice x core is e = is ∙ ap Step (sym (e ∙ ap core_in is))

drain-of : (choice : Choice) (x core : Core) → choice ≡ Drain x → core ≡ core_in choice → choice ≡ Drain core
drain-of choice x core is e = is ∙ ap Drain (sym (e ∙ ap core_in is))

pub returns-in-None : goal.returns-in-None
returns-in-None g c =
    let is = step-of c.args.choice _ c.core_of-core.result c.in-Step.is c.core_of-core.ensures.core in
    let t = c.args.test.now in
    let m = c.args.hardware.now in
    let core = c.core_of-core.result in
    let p = c.index_mut-processor.result.now in
    let found = c.index_mut-processor.ensures.value in
    let here = rw is at c.requires.core in
    let free = rw is at c.requires.free in
    let within = within-cores t m core.0 c.requires.fits here in
    let got : slice_get (program_of t core.0) p.place ≡ None = ap (λ xs. slice_get xs p.place) (sym c.program.ensures.value) ∙ sym c.in-None.ensures in
    let none = access_of-done t m core p within found got in
    let whole = whole-done c.args.way t m (Step core) none free in
    let kept = IsCore-at t m core.0 p c.requires.fits here found in
    record {
      makes = rw is
          (IfOk-Makes c.args.way (Ok (Stalled stall.Done, Unused)) t m _ (Step core) NoAccess p p (stalled stall.Done (core_state core.0 p)) free
          (effect_in-done t m core p within found got) none within found refl refl
          (acts-stalls c.args.way NoAccess core.0 p m.bus m.commits (stalled stall.Done (core_state core.0 p)) stall.Done whole refl));
      succeeds = λ _. refl;
      err = tt;
      keeps = record { config = refl; counts = refl };
      holder = rw whole refl;
      fits = PartsFitTest-next t m _ core.0 p c.requires.fits refl refl refl refl kept.depth_is kept.known;
    }

pub returns-in-Some : goal.returns-in-Some
returns-in-Some g c =
    let is = step-of c.args.choice _ c.core_of-core.result c.in-Step.is c.core_of-core.ensures.core in
    let t = c.args.test.now in
    let m = c.args.hardware.now in
    let core = c.core_of-core.result in
    let p = c.index_mut-processor.result.now in
    let found = c.index_mut-processor.ensures.value in
    let here = rw is at c.requires.core in
    let free = rw is at c.requires.free in
    let within = within-cores t m core.0 c.requires.fits here in
    let got : slice_get (program_of t core.0) p.place ≡ Some c.in-Some.instr =
    ap (λ xs. slice_get xs p.place) (sym c.program.ensures.value) ∙ sym c.in-Some.ensures in
    let kept = IsCore-at t m core.0 p c.requires.fits here found in
    let effect = effect_in-step t m core p c.in-Some.instr within found kept.depth_is got in
    let access = access_of-step t m core p c.in-Some.instr within found kept.depth_is got in
    record {
      makes = rw is
          (IfOk-Makes c.args.way c.step.result t m _ (Step core)
          (step_access p.stores.depth (Some c.in-Some.instr) (pending_in core.0 p)) p c.step.new.processor
          (step_by c.in-Some.instr core.0 p (words_of m.bus)) free effect access within found refl refl c.step.ensures.acts);
      succeeds = rw is (subst (λ f. SucceedsUnlessCommitting c.step.result f) (sym effect) c.step.ensures.succeeds);
      err = undone c.step.result m _ core.0 p c.step.new.processor found refl refl c.step.ensures.err;
      keeps = record { config = refl; counts = refl };
      holder =
          acts-holder c.step.result (record { core = core; way = c.args.way })
          (own_access (action_of c.in-Some.instr) core.0 p) (step_by c.in-Some.instr) p c.step.new.processor m.bus
          c.step.new.bus
          m.commits c.step.new.commits c.step.ensures.acts;
      fits = PartsFitTest-next t m _ core.0 c.step.new.processor c.requires.fits refl refl
          c.step.ensures.sizes.cores c.step.ensures.sizes.count (c.step.ensures.depth ∙ kept.depth_is) c.step.ensures.stores;
    }

pub step-requires-clause-free : goal.step-requires-clause-free
step-requires-clause-free g c =
    let is = step-of c.args.choice _ c.core_of-core.result c.in-Step.is c.core_of-core.ensures.core in
    let t = c.args.test.now in
    let m = c.args.hardware.now in
    let core = c.core_of-core.result in
    let p = c.index_mut-processor.result.now in
    let found = c.index_mut-processor.ensures.value in
    let here = rw is at c.requires.core in
    let got : slice_get (program_of t core.0) p.place ≡ Some c.in-Some.instr =
    ap (λ xs. slice_get xs p.place) (sym c.program.ensures.value) ∙ sym c.in-Some.ensures in
    let kept = IsCore-at t m core.0 p c.requires.fits here found in
    may-make c.args.way t m (Step core) _
    (access_of-step t m core p c.in-Some.instr (within-cores t m core.0 c.requires.fits here) found kept.depth_is got) (rw is at c.requires.free)

pub step-requires-clause-place : goal.step-requires-clause-place
step-requires-clause-place g c =
    place-within c.program.result.now (Some c.in-Some.instr) c.in-Some.instr c.index_mut-processor.result.now.place
    c.in-Some.ensures refl c.program.ensures.size

pub step-requires-clause-core : goal.step-requires-clause-core
step-requires-clause-core g c =
    let is = step-of c.args.choice _ c.core_of-core.result c.in-Step.is c.core_of-core.ensures.core in
    rw c.requires.fits.on_bus (rw is at c.requires.core)

pub step-requires-clause-known : goal.step-requires-clause-known
step-requires-clause-known g c =
    rw c.requires.fits.words
    (All-got (KnownLocation (length c.args.test.now.locations)) c.program.result.now
    c.index_mut-processor.result.now.place c.in-Some.instr c.program.ensures.locations (sym c.in-Some.ensures))

pub step-requires-clause-stores : goal.step-requires-clause-stores
step-requires-clause-stores g c =
    let is = step-of c.args.choice _ c.core_of-core.result c.in-Step.is c.core_of-core.ensures.core in
    let core =
    IsCore-at c.args.test.now c.args.hardware.now c.core_of-core.result.0 c.index_mut-processor.result.now
    c.requires.fits (rw is at c.requires.core) c.index_mut-processor.ensures.value in
    core.known

pub drain-requires-clause-free : goal.drain-requires-clause-free
drain-requires-clause-free g c =
    let is = drain-of c.args.choice _ c.core_of-core.result c.in-Drain.is c.core_of-core.ensures.core in
    let within = within-cores c.args.test.now c.args.hardware.now c.core_of-core.result.0 c.requires.fits (rw is at c.requires.core) in
    may-make c.args.way c.args.test.now c.args.hardware.now (Drain c.core_of-core.result) _
    (access_of-drain c.args.test.now c.args.hardware.now c.core_of-core.result c.index_mut-processor.result.now within
    c.index_mut-processor.ensures.value)
    (rw is at c.requires.free)

pub returns-in-Drain-clause-makes : goal.returns-in-Drain-clause-makes
returns-in-Drain-clause-makes g c =
    let is = drain-of c.args.choice _ c.core_of-core.result c.in-Drain.is c.core_of-core.ensures.core in
    let p = c.index_mut-processor.result.now in
    let core = c.core_of-core.result in
    let within = within-cores c.args.test.now c.args.hardware.now core.0 c.requires.fits (rw is at c.requires.core) in
    rw is
    (IfOk-Makes c.args.way c.drain.result c.args.test.now c.args.hardware.now _ (Drain core)
    (drain_access (pending_in core.0 p)) p c.drain.new.processor
    (effect_of_drain core.0 p (words_of c.args.hardware.now.bus))
    (rw is at c.requires.free) (effect_in-drain c.args.test.now c.args.hardware.now core p within c.index_mut-processor.ensures.value)
    (access_of-drain c.args.test.now c.args.hardware.now core p within c.index_mut-processor.ensures.value) within
    c.index_mut-processor.ensures.value refl refl c.drain.ensures.acts)

pub returns-in-Drain-clause-succeeds : goal.returns-in-Drain-clause-succeeds
returns-in-Drain-clause-succeeds g c =
    let is = drain-of c.args.choice _ c.core_of-core.result c.in-Drain.is c.core_of-core.ensures.core in
    let within = within-cores c.args.test.now c.args.hardware.now c.core_of-core.result.0 c.requires.fits (rw is at c.requires.core) in
    let effect =
    effect_in-drain c.args.test.now c.args.hardware.now c.core_of-core.result c.index_mut-processor.result.now
    within c.index_mut-processor.ensures.value in
    rw is
    (subst (λ f. SucceedsUnlessCommitting c.drain.result f) (sym effect) c.drain.ensures.succeeds)

pub returns-in-Drain-clause-err : goal.returns-in-Drain-clause-err
returns-in-Drain-clause-err g c =
    undone c.drain.result c.args.hardware.now _ c.core_of-core.result.0 c.index_mut-processor.result.now
    c.drain.new.processor c.index_mut-processor.ensures.value refl refl c.drain.ensures.err

pub returns-in-Drain-clause-holder : goal.returns-in-Drain-clause-holder
returns-in-Drain-clause-holder g c =
    let p = c.index_mut-processor.result.now in
    acts-holder c.drain.result (record { core = c.core_of-core.result; way = c.args.way })
    (drain_access (pending_in c.core_of-core.result.0 p)) effect_of_drain p c.drain.new.processor
    c.args.hardware.now.bus c.drain.new.bus
    c.args.hardware.now.commits c.drain.new.commits c.drain.ensures.acts

pub drain-requires-clause-stores : goal.drain-requires-clause-stores
drain-requires-clause-stores g c =
    let is = drain-of c.args.choice _ c.core_of-core.result c.in-Drain.is c.core_of-core.ensures.core in
    let core =
    IsCore-at c.args.test.now c.args.hardware.now c.core_of-core.result.0 c.index_mut-processor.result.now
    c.requires.fits (rw is at c.requires.core) c.index_mut-processor.ensures.value in
    core.known

pub returns-in-Drain-clause-fits : goal.returns-in-Drain-clause-fits
returns-in-Drain-clause-fits g c =
    let is = drain-of c.args.choice _ c.core_of-core.result c.in-Drain.is c.core_of-core.ensures.core in
    let core =
    IsCore-at c.args.test.now c.args.hardware.now c.core_of-core.result.0 c.index_mut-processor.result.now
    c.requires.fits (rw is at c.requires.core) c.index_mut-processor.ensures.value in
    PartsFitTest-next c.args.test.now c.args.hardware.now _ c.core_of-core.result.0 c.drain.new.processor c.requires.fits refl refl
    c.drain.ensures.sizes.cores c.drain.ensures.sizes.count (c.drain.ensures.depth ∙ core.depth_is) c.drain.ensures.stores
