use Rattle.search_report.proofs.Vocabulary.{◌∙◌, claim_of}
use Rattle.search_report.proofs.Truths.{none-counted, next-has, one-held, one-failed, all-counted, failed-left}
use Rattle.search_report.proofs.counted_states.counts_of.Goals as goal

pub loop-state-init : goal.loop-state-init
loop-state-init c =
    none-counted (claim_of c.args.cond.now.prop) c.into_iter-state-iterator.result c.args.outcomes.now.entries
    (c.into_iter-state-iterator.ensures.into_iter_gives ∙ c.values-state-items.ensures.rest) c.requires

pub cond_holds-requires : goal.cond_holds-requires
cond_holds-requires c =
    next-has (claim_of c.args.cond.now.prop) c.loop-state.held c.loop-state.state-iterator c.next.new.self c.args.outcomes.now.entries c.in-Some.state.now
    c.deref.result.now c.deref-in-loop-state.result.now c.in-Some.ensures.steps c.deref.ensures.value c.deref-in-loop-state.ensures.value c.loop-state.invariant

pub loop-state-preserved-then-cond_holds : goal.loop-state-preserved-then-cond_holds
loop-state-preserved-then-cond_holds c =
    one-held (claim_of c.args.cond.now.prop) c.loop-state.held c.loop-state.state-iterator c.next.new.self c.args.outcomes.now.entries c.in-Some.state.now
    c.deref.result.now c.deref-in-loop-state.result.now c.cond_holds.result c.in-Some.ensures.steps c.deref.ensures.value c.deref-in-loop-state.ensures.value
    c.cond_holds.ensures c.if-cond_holds.true c.loop-state.invariant

pub loop-state-preserved : goal.loop-state-preserved
loop-state-preserved c =
    one-failed (claim_of c.args.cond.now.prop) c.loop-state.held c.loop-state.state-iterator c.next.new.self c.args.outcomes.now.entries c.in-Some.state.now
    c.deref.result.now c.deref-in-loop-state.result.now c.cond_holds.result c.in-Some.ensures.steps c.deref.ensures.value c.deref-in-loop-state.ensures.value
    c.cond_holds.ensures c.if-cond_holds.false c.loop-state.invariant

pub returns-clause-held : goal.returns-clause-held
returns-clause-held c =
    all-counted (claim_of c.args.cond.now.prop) c.loop-state.held c.loop-state.state-iterator
    c.args.outcomes.now.entries c.in-None.ensures.steps.0 c.loop-state.invariant

pub returns-clause-failed : goal.returns-clause-failed
returns-clause-failed c =
    failed-left (claim_of c.args.cond.now.prop) c.args.outcomes.now.entries c.len.result c.loop-state.held c.len.ensures.len (returns-clause-held c)
