use Rattle.found_reasons.proofs.Vocabulary.{◌≡◌, drop, knowledge_of, first_where, has_no_source}
use Rattle.found_reasons.proofs.leaves.find_sourceless.Given as goal

abbrev pub invariant-loop-r : goal.invariant-loop-r
invariant-loop-r l =
    first_where (has_no_source l.told.test.now (knowledge_of l.told)) (drop l.r-index l.told.events.now)
    ≡ first_where (has_no_source l.told.test.now (knowledge_of l.told)) l.told.events.now
