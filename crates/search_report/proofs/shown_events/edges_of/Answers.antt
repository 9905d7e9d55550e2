use Rattle.search_report.proofs.Vocabulary.{[], ◌∷◌, ◌++◌, ap, sym, ◌∙◌, drop_all, drop_more, relations_of}
use Rattle.refutation_checker.specs.inner.Branches.{knowledge_of}
use Rattle.search_report.specs.Shown as spec
use Rattle.tso_report.proofs.Listed.{listed}
use Rattle.search_report.proofs.shown_events.edges_of.Goals as goal

pub loop-next-preserved : goal.loop-next-preserved
loop-next-preserved c =
    let t = c.args.told.test.now in
    let k = knowledge_of c.args.told in
    let rest = c.in-Some.rest.now in
    let edges = c.loop-next.edges.items in
    listed edges c.push.new.self.items _ _ _ _ (c.in_ok-push.ensures.items ∙ ap (λ e. edges ++ (e ∷ [])) c.edge_at.ensures)
    (ap (spec.edges_back t k (relations_of c.args.acyclic) c.in-Some.first.now c.loop-next.last.now)
    (drop_more rest c.loop-next.next-index _ c.loop-next-test.true))
    c.loop-next.invariant

-- the edge back to the first event is the last one
pub returns : goal.returns
returns c =
    let t = c.args.told.test.now in
    let k = knowledge_of c.args.told in
    let edges = c.loop-next.edges.items in
    c.in_ok-push-2.ensures.items
    ∙ (ap (λ e. edges ++ (e ∷ [])) c.edge_at-2.ensures
    ∙ (ap (λ es. edges ++ es) (sym (ap (spec.edges_back t k (relations_of c.args.acyclic) c.in-Some.first.now c.loop-next.last.now)
    (drop_all c.loop-next.next-index c.in-Some.rest.now c.loop-next-test.false)))
    ∙ c.loop-next.invariant))
