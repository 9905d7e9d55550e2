use Rattle.refutation_checker.proofs.Vocabulary.{◌≡◌, drop, list_all, is_event, knowledge_of, relations_of, is_cycle, is_edge, leads_back}
use Rattle.refutation_checker.proofs.edges.is_cycle.Given as goal

abbrev pub invariant-loop-e : goal.invariant-loop-e
invariant-loop-e l = list_all (is_event l.told.test.now) (drop l.e-index l.cycle) ≡ list_all (is_event l.told.test.now) l.cycle

abbrev pub invariant-loop-next : goal.invariant-loop-next
invariant-loop-next l =
    is_cycle l.told.test.now (is_edge l.told.test.now (knowledge_of l.told) (relations_of l.acyclic)) l.cycle
    ≡ leads_back (is_edge l.told.test.now (knowledge_of l.told) (relations_of l.acyclic)) l.first l.last (drop l.next-index l.rest)
