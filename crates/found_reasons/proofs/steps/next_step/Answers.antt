use Rattle.found_reasons.proofs.Vocabulary.{subst, known_of, facts_of, knowledge_of, LeafIfAny, QuestionOrFull}
use Rattle.reading_tables.specs.inner.Tables.{readings_of}
use Rattle.found_reasons.proofs.Stepping.{leaf-step, question-step, full}
use Rattle.found_reasons.proofs.steps.next_step.Goals as goal

pub returns-in-Some : goal.returns-in-Some
returns-in-Some c =
    leaf-step c.args.model c.args.told.test.now (facts_of c.args.told.facts.now) (readings_of c.args.told.readings.now) c.requires.table c.in-Some.leaf
    (subst (LeafIfAny c.args.model c.args.told.test.now (knowledge_of c.args.told)) c.in-Some.is c.in_ok-leaf.ensures)

pub returns-in-Some-open_question : goal.returns-in-Some-open_question
returns-in-Some-open_question c =
    question-step c.args.model c.args.told.test.now (facts_of c.args.told.facts.now) (readings_of c.args.told.readings.now) c.requires.table
    (known_of c.in_ok-answers.answers) c.in_ok-answers.ensures c.in-Some-open_question.question
    (subst (LeafIfAny c.args.model c.args.told.test.now (knowledge_of c.args.told)) c.in_default.is c.in_ok-leaf.ensures)
    (subst (QuestionOrFull c.args.told.test.now (known_of c.in_ok-answers.answers)) c.in-Some-open_question.is c.open_question.ensures)

pub order_of_branch-requires-clause-full : goal.order_of_branch-requires-clause-full
order_of_branch-requires-clause-full c =
    full c.args.told.test.now (facts_of c.args.told.facts.now) c.requires.branch (known_of c.in_ok-answers.answers) c.in_ok-answers.ensures
    (subst (QuestionOrFull c.args.told.test.now (known_of c.in_ok-answers.answers)) c.in_default-open_question.is c.open_question.ensures)

pub order_of_branch-requires-clause-leafless : goal.order_of_branch-requires-clause-leafless
order_of_branch-requires-clause-leafless c =
    subst (LeafIfAny c.args.model c.args.told.test.now (knowledge_of c.args.told)) c.in_default.is c.in_ok-leaf.ensures
