use Rattle.promises.proofs.Vocabulary.{All, sym, subst}
use Rattle.trace_report.specs.Steps.{trace_under}
use Rattle.printed_laws.specs.Traces.{TraceStepFits}
use Rattle.promises.proofs.printed.trace_steps.traces_are_told_apart.Goals as goal

pub returns-clause-fit : goal.returns-clause-fit
returns-clause-fit given = given.traced_steps_fit_their_test.ensures

pub returns-clause-told : goal.returns-clause-told
returns-clause-told given =
    λ t kind other_kind c d choices other rest other_rest test within within_other words exist exist_other same.
    (given.traces_tell_their_steps.ensures.lines t c.shape.words (trace_under t kind c choices)
    (trace_under t other_kind d other) rest other_rest test
    (given.traced_steps_fit_their_test.ensures t kind c choices test within exist)
    (subst (λ k. All (TraceStepFits t k) (trace_under t other_kind d other)) (sym words)
    (given.traced_steps_fit_their_test.ensures t other_kind d other test within_other exist_other))
    same).0
