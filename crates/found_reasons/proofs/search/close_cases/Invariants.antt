use Rattle.found_reasons.proofs.Vocabulary.{map, node_of, branches_of}
use Rattle.found_reasons.proofs.Narrowing.{total_of}
use Rattle.found_reasons.proofs.Searching.{IsSearch}
use Rattle.found_reasons.proofs.search.close_cases.Given as goal

abbrev pub invariant-loop-facts : goal.invariant-loop-facts
invariant-loop-facts l = IsSearch l.model l.problem.test.now (branches_of l.branches.items) (map node_of l.nodes.items)

abbrev pub decreases-loop-facts : goal.decreases-loop-facts
decreases-loop-facts l = total_of 1 l.problem.test.now (branches_of l.branches.items)
