use Rattle.trace_report.proofs.Vocabulary.{◌≡◌, ◌∙◌, [], ap, sym, subst, rules, new_machine, table_of, view}
use Rattle.trace_report.specs.inner.Following.{CanFollow}
use Rattle.trace_report.specs.inner.Observing.{OpensTrace, MakesStep, told_by}
use Rattle.trace_report.specs.declared.kept_trace.Tracer.{Tracer}
use Rattle.trace_report.proofs.Tracing.{told-whole}
use Rattle.trace_report.proofs.Within.{few-steps, shown-whole}
use Rattle.trace_report.proofs.kept_trace.simulate_telling.Goals as goal

pub simulate_observed-requires-clause-begins : goal.simulate_observed-requires-clause-begins
simulate_observed-requires-clause-begins c = λ table. (
  subst (λ (o : Tracer). CanFollow o.follower (new_machine table c.args.setup.now.config c.args.setup.now.test.now))
      (sym c.new-limited.ensures.observer) (c.in_ok-follower.ensures.can table),
  ap (λ (o : Tracer). o.last) c.new-limited.ensures.observer,
)

pub returns-clause-told : goal.returns-clause-told
returns-clause-told c = λ few.
    let t = c.args.setup.now.test.now in
    let kind = c.args.setup.now.protocol in
    let config = c.args.setup.now.config in
    let choices = c.args.choices.now in
    let m = new_machine (table_of kind) config t in
    let first = c.new-limited.ensures.observer in
    let none : c.new-2.result.items ≡ [] = search rules in
    let watched =
    shown-whole (λ l. l.observer) (λ l. l.is_passed) OpensTrace MakesStep (λ o m n. view n.told ≡ told_by o m) _
    c.simulate_observed.new.observer m choices
    c.in_ok-ending.ensures.watched c.new-limited.ensures.unpassed (few-steps c.traces_tell_their_runs.ensures kind config t choices few) in
    ap view c.replace-told.ensures.value
    ∙ told-whole c.args.extent m _ c.simulate_observed.new.observer.observer choices watched
    (ap (λ (o : Tracer). o.extent) first) (ap (λ (o : Tracer). o.steps.items) first ∙ none)
    (ap (λ (o : Tracer). o.follower.memory.items) first ∙ c.in_ok-follower.ensures.memory)
