use Rattle.refutation_checker.proofs.Vocabulary.{◌+◌, ◌&&◌, drop, list_all, is_event, at_drop_more, at_drop_all, ap, sym, ◌∙◌, is_edge}
use Rattle.refutation_checker.proofs.Vocabulary.{leads_back, knowledge_of, relations_of}
use Rattle.refutation_checker.proofs.Walking.{all-done}
use Rattle.refutation_checker.proofs.Relating.{begun, leads-on, leads-off}
use Rattle.refutation_checker.proofs.edges.is_cycle.Goals as goal

pub returns-then-not-is_event : goal.returns-then-not-is_event
returns-then-not-is_event c =
    let all = list_all (is_event c.args.told.test.now) in
    sym (begun c.args.told.test.now _ _ _ _ _ c.in-Some.ensures.cases.0 (sym c.loop-e.invariant
    ∙ (at_drop_more all c.args.cycle.now c.loop-e.e-index _ c.loop-e-test.true
    ∙ ap (λ b. b && all (drop (c.loop-e.e-index + 1) c.args.cycle.now)) (sym c.is_event.ensures ∙ c.if-not-is_event.true))))

pub loop-next-init : goal.loop-next-init
loop-next-init c =
    begun c.args.told.test.now _ _ _ _ _ c.in-Some.ensures.cases.0
    (sym c.loop-e.invariant ∙ at_drop_all (list_all (is_event c.args.told.test.now)) c.args.cycle.now c.loop-e.e-index c.loop-e-test.false)

pub loop-next-preserved : goal.loop-next-preserved
loop-next-preserved c =
    let edge = is_edge c.args.told.test.now (knowledge_of c.args.told) (relations_of c.args.acyclic) in
    leads-on edge c.in-Some.first.now c.loop-next.last.now c.in-Some.rest.now c.loop-next.next-index _ c.loop-next-test.true _ c.loop-next.invariant
    (sym c.leads_to.ensures ∙ c.if-not-leads_to.false)

pub returns-then-not-leads_to : goal.returns-then-not-leads_to
returns-then-not-leads_to c =
    let edge = is_edge c.args.told.test.now (knowledge_of c.args.told) (relations_of c.args.acyclic) in
    leads-off edge c.in-Some.first.now c.loop-next.last.now c.in-Some.rest.now c.loop-next.next-index _ c.loop-next-test.true _ c.loop-next.invariant
    (sym c.leads_to.ensures ∙ c.if-not-leads_to.true)

pub returns : goal.returns
returns c =
    let edge = is_edge c.args.told.test.now (knowledge_of c.args.told) (relations_of c.args.acyclic) in
    c.leads_to-2.ensures
    ∙ sym
    (all-done (leads_back edge c.in-Some.first.now c.loop-next.last.now) c.in-Some.rest.now c.loop-next.next-index
    c.loop-next-test.false _ c.loop-next.invariant)
