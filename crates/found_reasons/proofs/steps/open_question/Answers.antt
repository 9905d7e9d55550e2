use Rattle.found_reasons.proofs.Vocabulary.{known_of}
use Rattle.found_reasons.proofs.Answered.{question-or-full}
use Rattle.found_reasons.proofs.steps.open_question.Goals as goal

pub returns : goal.returns
returns c =
    question-or-full c.args.told.test.now (known_of c.args.answers.now) c.args.told.events.now c.requires.events c.next_question.result c.next_question.ensures
