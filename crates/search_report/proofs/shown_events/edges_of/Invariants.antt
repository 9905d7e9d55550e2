use Rattle.search_report.proofs.Vocabulary.{◌≡◌, ◌++◌, drop, relations_of}
use Rattle.refutation_checker.specs.inner.Branches.{knowledge_of}
use Rattle.search_report.specs.Shown as spec
use Rattle.search_report.proofs.shown_events.edges_of.Given as goal

abbrev pub invariant-loop-next : goal.invariant-loop-next
invariant-loop-next l =
    l.edges.items ++ spec.edges_back l.told.test.now (knowledge_of l.told) (relations_of l.acyclic) l.first l.last (drop l.next-index l.rest)
    ≡ spec.edges_of l.told.test.now (knowledge_of l.told) (relations_of l.acyclic) l.cycle
