use Rattle.machine_core.proofs.Vocabulary.{refl, sym, subst, IfOk, state_in, chosen, core_of, stalled, SucceedsUnlessCommitting, HasMade}
use Rattle.tso_terms.specs.declared.choice.Stall.TheVariants as stall
use Rattle.machine_core.specs.inner.Split.{IsCourseOn}
use Rattle.machine_core.proofs.EitherBus.{may-at-once, effect-at-once, held-at-once, effect-stalls}
use Rattle.machine_core.proofs.Splitting.{performs-stall, use-rests}
use Rattle.machine_core.proofs.hardware.act_on_bus.Goals as goal

pub act-requires-clause-free : goal.act-requires-clause-free
act-requires-clause-free g c =
    let m = c.args.hardware.now in
    may-at-once c.args.test.now m c.args.choice m.config.bus c.requires.consistent
    (subst (IsCourseOn m.config.bus c.args.test.now m c.args.choice) c.in-ActsAtOnce.is c.course_on_bus-course.ensures.course)

pub returns-in-ActsAtOnce : goal.returns-in-ActsAtOnce
returns-in-ActsAtOnce g c =
    let t = c.args.test.now in
    let m = c.args.hardware.now in
    let course = subst (IsCourseOn m.config.bus t m c.args.choice) c.in-ActsAtOnce.is c.course_on_bus-course.ensures.course in
    let same = sym (effect-at-once t m c.args.choice m.config.bus refl course) in
    record {
      makes = subst (λ f. IfOk c.act.result (HasMade t m c.act.new.hardware c.args.choice f)) same c.act.ensures.makes;
      answer = c.course_on_bus-course.ensures.answer;
      succeeds = subst (λ f. SucceedsUnlessCommitting c.act.result f.effect) same c.act.ensures.succeeds;
      err = c.act.ensures.err;
      keeps = c.act.ensures.keeps;
      of_test = record {
        fits = c.act.ensures.fits;
        held = held-at-once t m c.args.choice m.config.bus c.act.result c.act.new.hardware c.requires.consistent course
            (c.accesses_wait.ensures t m.config.depth (state_in m).flat) c.act.ensures.keeps.config c.act.ensures.holder c.act.ensures.makes c.act.ensures.err;
      };
    }

pub returns-in-Stalls : goal.returns-in-Stalls
returns-in-Stalls g c =
    let t = c.args.test.now in
    let m = c.args.hardware.now in
    let s = core_of (state_in m).flat (chosen c.args.choice) in
    let course = subst (IsCourseOn m.config.bus t m c.args.choice) c.in-Stalls.is c.course_on_bus-course.ensures.course in
    let stalls = effect-stalls t m c.args.choice m.config.bus refl course in
    record {
      makes = record {
        ok = performs-stall t m c.args.choice _ (stalled stall.Bus s) _ stalls refl refl refl;
        caches = use-rests t m c.args.choice _ (stalled stall.Bus s) stalls refl;
      };
      answer = c.course_on_bus-course.ensures.answer;
      succeeds = λ _. refl;
      err = tt;
      keeps = record { config = refl; counts = refl };
      of_test = record { fits = c.requires.consistent.fits; held = c.requires.consistent.held };
    }
