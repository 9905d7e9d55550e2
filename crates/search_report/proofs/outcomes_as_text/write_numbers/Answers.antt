use Rattle.search_report.proofs.Vocabulary.{◌∙◌, ◌+◌, ◌<◌, ◌≤◌, length, string_bytes, arith, claim_of}
use Rattle.std.specs.Prelude.{◌^◌}
use Rattle.search_report.proofs.Numbering.{none-numbered, next-has, one-true, one-false, one-more-fits}
use Rattle.search_report.proofs.outcomes_as_text.write_numbers.Goals as goal

pub loop-state-init : goal.loop-state-init
loop-state-init c =
    none-numbered (claim_of c.args.cond.now.prop) (string_bytes c.args.text.now) c.into_iter-state-iterator.result c.args.outcomes.now.entries
    (c.into_iter-state-iterator.ensures.into_iter_gives ∙ c.values-state-items.ensures.rest) c.requires

pub overflow_add-number : goal.overflow_add-number
overflow_add-number c =
    let few : length c.args.outcomes.now.entries < 2 ^ 63 = c.values-state-items.ensures.fits in
    let within : c.loop-state.number + 1 ≤ length c.args.outcomes.now.entries =
    one-more-fits _ _ _ _ _ c.loop-state.state-iterator c.next.new.self c.in-Some.state.now c.in-Some.ensures.steps c.loop-state.invariant in
    omega (arith, few, within)

pub cond_holds-requires : goal.cond_holds-requires
cond_holds-requires c =
    next-has (claim_of c.args.cond.now.prop) _ _ c.loop-state.number (string_bytes c.loop-state.text)
    c.loop-state.state-iterator c.next.new.self c.in-Some.state.now
    c.deref.result.now c.deref-in-loop-state.result.now c.in-Some.ensures.steps c.deref.ensures.value c.deref-in-loop-state.ensures.value c.loop-state.invariant

pub loop-state-preserved-in-Continue-1 : goal.loop-state-preserved-in-Continue-1
loop-state-preserved-in-Continue-1 c =
    one-true (claim_of c.args.cond.now.prop) _ _ c.loop-state.number (string_bytes c.loop-state.text)
    c.loop-state.state-iterator c.next.new.self c.in-Some.state.now
    c.deref.result.now c.deref-in-loop-state.result.now c.cond_holds.result c.in-Some.ensures.steps c.deref.ensures.value c.deref-in-loop-state.ensures.value
    c.cond_holds.ensures c.loop-state.invariant (string_bytes c.write_number.new.text) c.if-cond_holds.true c.in_ok-write_number.ensures

pub loop-state-preserved : goal.loop-state-preserved
loop-state-preserved c =
    one-false (claim_of c.args.cond.now.prop) _ _ c.loop-state.number (string_bytes c.loop-state.text)
    c.loop-state.state-iterator c.next.new.self c.in-Some.state.now
    c.deref.result.now c.deref-in-loop-state.result.now c.cond_holds.result c.in-Some.ensures.steps c.deref.ensures.value c.deref-in-loop-state.ensures.value
    c.cond_holds.ensures c.loop-state.invariant c.if-cond_holds.false
