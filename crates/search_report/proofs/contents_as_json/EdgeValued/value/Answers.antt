use Rattle.search_report.proofs.Vocabulary.{◌≡◌, subst, codes, IfOk, Data, string, put, object, view, no_members}
use Rattle.search_report.specs.ReasonText.{event_text, relation_text}
use Rattle.search_report.proofs.contents_as_json.EdgeValued.value.Goals as goal

pub returns : goal.returns
returns c =
    let t = c.args.test.now in
    let edge = c.args.self.now in
    let relation : c.relation_text-relation.result.now ≡ relation_text edge.relation = c.relation_text-relation.ensures in
    subst (λ (d : Data). IfOk c.value.result (λ value. view value ≡ d))
    (λ i.
    object (put (codes "to") (string (event_text t edge.target))
    (put (codes "relation") (string (relation i)) (put (codes "from") (string (event_text t edge.source)) no_members))))
    (c.value.ensures _ (c.member-3.ensures _ _
    (c.member-2.ensures _ _ (c.member.ensures _ _ c.new.ensures c.text_value.ensures) c.text_value-2.ensures)
    c.text_value-3.ensures))
