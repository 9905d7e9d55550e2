use Rattle.found_reasons.proofs.Vocabulary.{◌-◌, length, is_edge, knowledge_of, relations_of}
use Rattle.found_reasons.proofs.Walking.{IsWalk}
use Rattle.found_reasons.proofs.cycle.walk_back.Given as goal

abbrev pub invariant-loop-place : goal.invariant-loop-place
invariant-loop-place l = IsWalk (is_edge l.told.test.now (knowledge_of l.told) (relations_of l.acyclic)) l.some l.path.items l.at

abbrev pub decreases-loop-place : goal.decreases-loop-place
decreases-loop-place l = length l.some - length l.path.items
