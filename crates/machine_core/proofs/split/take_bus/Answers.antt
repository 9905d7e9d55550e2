use Rattle.machine_core.proofs.Vocabulary.{◌<◌, ◌∙◌, sym, ap, subst, length, IfOk, chosen, HasMade, writes_last_in}
use Rattle.machine_core.specs.inner.Split.{IsCourse}
use Rattle.machine_core.proofs.NextChoices.{asked-completes, last-writes}
use Rattle.machine_core.proofs.split.take_bus.Goals as goal

pub complete-requires-clause-asked : goal.complete-requires-clause-asked
complete-requires-clause-asked g c = subst (IsCourse c.args.test.now c.args.hardware.now c.args.choice) c.in-Completes.is c.requires.course

pub write_last-requires-clause-core : goal.write_last-requires-clause-core
write_last-requires-clause-core g c =
    let course = subst (IsCourse c.args.test.now c.args.hardware.now c.args.choice) c.in-WritesLast.is c.requires.course in
    subst (λ choice. chosen choice < length c.args.test.now.programs) (sym course.1) c.requires.core

pub write_last-requires-clause-between : goal.write_last-requires-clause-between
write_last-requires-clause-between g c =
    (subst (IsCourse c.args.test.now c.args.hardware.now c.args.choice) c.in-WritesLast.is c.requires.course).0

pub ask-requires-clause-course : goal.ask-requires-clause-course
ask-requires-clause-course g c = subst (IsCourse c.args.test.now c.args.hardware.now c.args.choice) c.in-Asks.is c.requires.course

pub returns-in-Completes : goal.returns-in-Completes
returns-in-Completes g c =
    let t = c.args.test.now in
    let m = c.args.hardware.now in
    let holder = subst (IsCourse t m c.args.choice) c.in-Completes.is c.requires.course in
    let same = sym (asked-completes t m c.args.choice holder) in
    record {
      makes = subst (λ f. IfOk c.complete.result (HasMade t m c.complete.new.hardware c.args.choice f)) same c.complete.ensures.makes;
      succeeds = λ other. absurd (other (sym (ap (λ f. f.effect.outcome) same) ∙ c.complete.ensures.commits_at_once));
      err = c.complete.ensures.err;
      keeps = c.complete.ensures.keeps;
      of_test = c.complete.ensures.of_test;
    }

pub returns-in-WritesLast : goal.returns-in-WritesLast
returns-in-WritesLast g c =
    let t = c.args.test.now in
    let m = c.args.hardware.now in
    let read = c.in-WritesLast.read in
    let course = subst (IsCourse t m c.args.choice) c.in-WritesLast.is c.requires.course in
    let same = sym (last-writes t m read c.args.choice course.0 course.1) in
    let made =
    subst (λ choice. IfOk c.write_last.result (HasMade t m c.write_last.new.hardware choice (writes_last_in t m read)))
    course.1 c.write_last.ensures.makes in
    record {
      makes = subst (λ f. IfOk c.write_last.result (HasMade t m c.write_last.new.hardware c.args.choice f)) same made;
      succeeds = λ other. absurd (other (sym (ap (λ f. f.effect.outcome) same) ∙ c.write_last.ensures.commits_at_once));
      err = c.write_last.ensures.err;
      keeps = c.write_last.ensures.keeps;
      of_test = c.write_last.ensures.of_test;
    }

pub returns-in-Asks : goal.returns-in-Asks
returns-in-Asks g c = record {
  makes = c.ask.ensures.makes;
  succeeds = c.ask.ensures.succeeds;
  err = c.ask.ensures.err;
  keeps = c.ask.ensures.keeps;
  of_test = c.ask.ensures.of_test;
}
