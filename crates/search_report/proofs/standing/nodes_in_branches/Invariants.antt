use Rattle.search_report.proofs.Vocabulary.{◌≡◌, ◌∷◌, ◌++◌, [], drop, map}
use Rattle.reading_tables.specs.Told.{facts_of}
use Rattle.refutation_checker.specs.Trees.{node_of}
use Rattle.search_report.specs.Lines as spec
use Rattle.search_report.specs.inner.Standing.{stack_of, standing_of}
use Rattle.search_report.proofs.standing.nodes_in_branches.Given as goal

abbrev pub invariant-loop-node : goal.invariant-loop-node
invariant-loop-node l =
    map standing_of l.all.items ++ spec.standing l.model l.problem.test.now (stack_of l.stack.items) (map node_of (drop l.node-index l.nodes))
    ≡ spec.standing l.model l.problem.test.now (spec.first_branch (facts_of l.fn.facts.items) ∷ []) (map node_of l.nodes)
