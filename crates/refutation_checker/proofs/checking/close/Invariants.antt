use Rattle.refutation_checker.proofs.Vocabulary.{◌≡◌, [], ◌∷◌, map, drop, node_of, lemma_of, facts_of, branches_of}
use Rattle.lemma_refutations.specs.Refutations.{close}
use Rattle.refutation_checker.proofs.checking.close.Given as goal

-- what is left of the nodes is a tree for each open branch just where all are one for the first
abbrev pub invariant-loop-node : goal.invariant-loop-node
invariant-loop-node l =
    close l.model l.problem.test.now (map lemma_of l.lemmas) (facts_of l.facts ∷ []) (map node_of l.tree)
    ≡ close l.model l.problem.test.now (map lemma_of l.lemmas) (branches_of l.branches.items) (map node_of (drop l.node-index l.tree))
