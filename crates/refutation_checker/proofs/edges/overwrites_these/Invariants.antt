use Rattle.refutation_checker.proofs.Vocabulary.{◌≡◌, drop, list_all, overwrites, knowledge_of}
use Rattle.refutation_checker.proofs.edges.overwrites_these.Given as goal

abbrev pub invariant-loop-source : goal.invariant-loop-source
invariant-loop-source l =
    list_all (overwrites l.told.test.now (knowledge_of l.told) l.r l.v) (drop l.source-index l.sources)
    ≡ list_all (overwrites l.told.test.now (knowledge_of l.told) l.r l.v) l.sources
