use Rattle.machine_core.proofs.Vocabulary.{refl, sym, ◌∙◌, subst, state_in, attempt_in, AreConsistent}
use Rattle.machine_core.specs.declared.split.Course.TheVariants.{ActsAtOnce}
use Rattle.machine_core.specs.inner.Split.{IsCourseOn}
use Rattle.machine_core.proofs.EitherBus.{is-free, fits-free}
use Rattle.machine_core.proofs.hardware.course_on_bus.Goals as goal

pub course_of-requires-clause-consistent : goal.course_of-requires-clause-consistent
course_of-requires-clause-consistent g c =
    subst (λ on. AreConsistent on c.args.test.now c.args.hardware.now) (sym c.bus.ensures ∙ c.in-Split.is) c.requires.consistent

pub returns-in-Atomic-clause-course : goal.returns-in-Atomic-clause-course
returns-in-Atomic-clause-course g c =
    subst (λ on. IsCourseOn on c.args.test.now c.args.hardware.now c.args.choice ActsAtOnce) (sym (sym c.bus.ensures ∙ c.in-Atomic.is)) refl

pub returns-in-Atomic-clause-answer : goal.returns-in-Atomic-clause-answer
returns-in-Atomic-clause-answer g c =
    let m = c.args.hardware.now in
    fits-free c.args.test.now m.config.depth (state_in m).flat (attempt_in c.args.test.now m c.args.choice) (state_in m).holder
    (is-free c.args.test.now m (sym c.bus.ensures ∙ c.in-Atomic.is) c.requires.consistent.holder)

pub returns-in-Split-clause-course : goal.returns-in-Split-clause-course
returns-in-Split-clause-course g c =
    subst (λ on. IsCourseOn on c.args.test.now c.args.hardware.now c.args.choice c.course_of.result)
    (sym (sym c.bus.ensures ∙ c.in-Split.is)) c.course_of.ensures.course
