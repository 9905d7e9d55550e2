use Rattle.refutation_checker.proofs.Vocabulary.{◌≡◌, drop, knowledge_of, first_that_relates}
use Rattle.refutation_checker.proofs.edges.first_that_relates.Given as goal

abbrev pub invariant-loop-relation : goal.invariant-loop-relation
invariant-loop-relation l =
    first_that_relates l.told.test.now (knowledge_of l.told) l.relations l.x l.y
    ≡ first_that_relates l.told.test.now (knowledge_of l.told) (drop l.relation-index l.relations) l.x l.y
