use Rattle.search_report.proofs.Writing.{as-named, is-whole, next-made, others-shown, all-made}
use Rattle.search_report.proofs.outcomes_as_json.states_value.Goals as goal

pub state_value-requires-clause-values : goal.state_value-requires-clause-values
state_value-requires-clause-values c =
    as-named c.args.test.now c.args.names.now c.loop-values.states c.loop-values.values-iterator c.next.new.self c.args.outcomes.now.entries
    c.in-Some.values.now c.in-Some.state.now c.deref.result.now c.in-Some.ensures.steps c.deref.ensures.value c.loop-values.invariant

pub state_value-requires-clause-state : goal.state_value-requires-clause-state
state_value-requires-clause-state c =
    is-whole c.args.test.now c.args.names.now c.loop-values.states c.loop-values.values-iterator c.next.new.self c.args.outcomes.now.entries
    c.in-Some.values.now c.in-Some.state.now c.in-Some.ensures.steps c.loop-values.invariant

pub loop-values-preserved : goal.loop-values-preserved
loop-values-preserved c =
    let t = c.args.test.now in
    let names = c.args.names.now in
    let es = c.args.outcomes.now.entries in
    let steps = c.in-Some.ensures.steps in (
      c.with-states.ensures _ _ _
          (next-made t names c.loop-values.states c.loop-values.values-iterator c.next.new.self es c.in-Some.values.now
          c.in-Some.state.now c.deref.result.now
          steps c.deref.ensures.value c.loop-values.invariant) c.state_value.ensures,
      others-shown t names c.loop-values.states c.loop-values.values-iterator c.next.new.self es c.in-Some.values.now
          c.in-Some.state.now steps c.loop-values.invariant,
    )

pub returns : goal.returns
returns c =
    c.value.ensures _ (all-made c.args.test.now c.args.names.now c.loop-values.states c.loop-values.values-iterator
    c.args.outcomes.now.entries c.in-None.ensures.steps.0
    c.requires.shown c.loop-values.invariant)
