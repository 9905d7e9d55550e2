use Rattle.refutation_checker.proofs.Vocabulary.{ap, ◌∙◌, ◌++◌, map, lemma_of, node_of, facts_of, branches_of}
use Rattle.lemma_refutations.specs.Refutations.{is_node, known_from}
use Rattle.refutation_checker.proofs.Stack.{wrong-node, right-node, ended, below}
use Rattle.refutation_checker.proofs.checking.close.Goals as goal

pub returns-then-not-branch : goal.returns-then-not-branch
returns-then-not-branch c =
    wrong-node c.args.model c.args.problem.now.test.now (map lemma_of c.args.lemmas.now) c.args.tree.now
    c.loop-node.node-index c.node-item.result c.loop-node-test.true c.node-item.is
    c.loop-node.branches.items c.pop.new.self.items c.in-Some.branch c.in-Some.ensures.items _ c.in_ok-go_on.field-0 (c.in_ok-go_on.ensures.judged
    ∙ ap (λ fs. is_node c.args.model c.args.problem.now.test.now (map lemma_of c.args.lemmas.now) (known_from c.args.problem.now.test.now (facts_of fs))
    (node_of c.node-item.result)) c.deref.ensures.value)
    c.loop-node.invariant c.if-not-branch.true

pub loop-node-preserved : goal.loop-node-preserved
loop-node-preserved c =
    right-node c.args.model c.args.problem.now.test.now (map lemma_of c.args.lemmas.now) c.args.tree.now
    c.loop-node.node-index c.node-item.result c.loop-node-test.true c.node-item.is
    c.loop-node.branches.items c.pop.new.self.items c.in-Some.branch c.in-Some.ensures.items _ c.in_ok-go_on.field-0 (c.in_ok-go_on.ensures.judged
    ∙ ap (λ fs. is_node c.args.model c.args.problem.now.test.now (map lemma_of c.args.lemmas.now) (known_from c.args.problem.now.test.now (facts_of fs))
    (node_of c.node-item.result)) c.deref.ensures.value)
    c.loop-node.invariant c.if-not-branch.false c.go_on.new.branches.items (c.in_ok-go_on.ensures.added c.if-not-branch.false
    ∙ ap (λ fs. below c.args.problem.now.test.now (facts_of fs) (node_of c.node-item.result) ++ branches_of c.pop.new.self.items) c.deref.ensures.value)

pub returns : goal.returns
returns c =
    ended c.args.model c.args.problem.now.test.now (map lemma_of c.args.lemmas.now) c.args.tree.now
    c.loop-node.node-index c.loop-node-test.false c.loop-node.branches.items _ _
    c.loop-node.invariant _ c.loop-node.branches.ok.0 c.is_empty.ensures
