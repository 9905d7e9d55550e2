use Rattle.search_report.proofs.Vocabulary.{◌≡◌, ◌∙◌, ◌∷◌, ◌++◌, [], ap, sym, map, length-map, on_ok_weaker}
use Rattle.reading_tables.specs.Told.{fact_of, facts_of}
use Rattle.refutation_checker.specs.Trees.{node_of}
use Rattle.refutation_checker.specs.inner.Stack.{branches_of}
use Rattle.lemma_refutations.specs.Refutations.{answers, known_from}
use Rattle.search_report.specs.Lines as spec
use Rattle.search_report.specs.inner.Standing.{branch_in, standing_of}
use Rattle.search_report.proofs.Branching.{as-many, below-added}
use Rattle.search_report.proofs.Lining.{map-last}
use Rattle.search_report.proofs.standing.go_on.Goals as goal

pub returns-clause-standing : goal.returns-clause-standing
returns-clause-standing c =
    let t = c.args.problem.now.test.now in
    let facts = facts_of c.args.branch.now.facts.items in
    let all = answers t (known_from t facts) (node_of c.args.node.now) in
    let are = c.in_ok-add_answers.ensures ∙ ap (λ bs. map (λ answer. answer ++ facts) all ++ branches_of bs) c.new-below.ensures.items in
    let count = c.in_ok-standing.ensures.count ∙ (c.len.ensures ∙ (c.add_answers.new.below.ok.0 ∙ as-many c.add_answers.new.below.items facts all are)) in
    let s = c.in_ok-standing.ensures in
    let stands : standing_of c.in_ok-standing.standing ≡ spec.standing_at c.args.model t (branch_in c.args.branch.now) (node_of c.args.node.now) =
    (λ i. record { answer = s.answer i; question = s.question i; count = count i; closing = s.closing i }) in
    on_ok_weaker c.add_below.result
    (λ _. ap (map standing_of) c.in_ok-push.ensures.items
    ∙ (map-last standing_of c.args.all.now.items c.in_ok-standing.standing ∙ ap (λ x. map standing_of c.args.all.now.items ++ (x ∷ [])) stands))
    c.add_below.ensures

pub returns-clause-below : goal.returns-clause-below
returns-clause-below c =
    let t = c.args.problem.now.test.now in
    let facts = facts_of c.args.branch.now.facts.items in
    let all = answers t (known_from t facts) (node_of c.args.node.now) in
    on_ok_weaker c.add_below.result
    (λ e. below-added t (branch_in c.args.branch.now) (node_of c.args.node.now) (branches_of c.add_answers.new.below.items) c.len-2.result _ _
    (c.in_ok-add_answers.ensures ∙ ap (λ bs. map (λ answer. answer ++ facts) all ++ branches_of bs) c.new-below.ensures.items)
    (c.len-2.ensures ∙ (c.args.branch.now.facts.ok.0 ∙ sym (length-map c.args.branch.now.facts.items fact_of))) e) c.add_below.ensures
