use Rattle.found_reasons.proofs.Vocabulary.{◌≡◌, true, drop, list_any, is_edge, knowledge_of, relations_of}
use Rattle.found_reasons.proofs.cycle.predecessor.Given as goal

-- it is still to come
abbrev pub invariant-loop-y : goal.invariant-loop-y
invariant-loop-y l = list_any (λ y. is_edge l.told.test.now (knowledge_of l.told) (relations_of l.acyclic) y l.x) (drop l.y-index l.some) ≡ true
