use Rattle.refutation_checker.proofs.Vocabulary.{◌≡◌, drop, map, list_any, fact_of, knowledge_of, is_impossible}
use Rattle.refutation_checker.proofs.claims.is_false.Given as goal

abbrev pub invariant-loop-fact : goal.invariant-loop-fact
invariant-loop-fact l =
    list_any (is_impossible l.told.test.now (knowledge_of l.told)) (map fact_of (drop l.fact-index l.fact-items))
    ≡ list_any (is_impossible l.told.test.now (knowledge_of l.told)) (map fact_of l.fact-items)
