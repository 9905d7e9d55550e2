use Rattle.trace_report.proofs.Vocabulary.{Option, sym, subst, shown_step, StepNamesExist}
use Rattle.std.specs.Prelude.{IfSome}
use Rattle.trace_report.specs.declared.step.Step.{Step}
use Rattle.trace_report.proofs.kept_trace.TracerObserver.begin.Goals as goal

pub returns-in_ok-self-in-Whole-clause-watches : goal.returns-in_ok-self-in-Whole-clause-watches
returns-in_ok-self-in-Whole-clause-watches g c = (
  c.in_ok-begin.ensures.follows,
  subst (λ (last : Option Step).
      IfSome last (λ told. StepNamesExist c.begin.new.self.test.now c.begin.new.self.config.shape.words (shown_step told)))
      (sym c.requires.1) tt,
)

pub returns-in-LastStep-clause-watches : goal.returns-in-LastStep-clause-watches
returns-in-LastStep-clause-watches g c = (
  c.in_ok-begin.ensures.follows,
  subst (λ (last : Option Step).
      IfSome last (λ told. StepNamesExist c.begin.new.self.test.now c.begin.new.self.config.shape.words (shown_step told)))
      (sym c.requires.1) tt,
)
