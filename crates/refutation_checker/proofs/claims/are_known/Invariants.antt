use Rattle.refutation_checker.proofs.Vocabulary.{◌≡◌, drop, map, list_all, fact_of, knowledge_of, is_known}
use Rattle.refutation_checker.proofs.claims.are_known.Given as goal

abbrev pub invariant-loop-fact : goal.invariant-loop-fact
invariant-loop-fact l =
    list_all (is_known l.told.test.now (knowledge_of l.told)) (map fact_of (drop l.fact-index l.facts))
    ≡ list_all (is_known l.told.test.now (knowledge_of l.told)) (map fact_of l.facts)
