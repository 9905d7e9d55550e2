use Rattle.promises.proofs.reasons.by_lemmas.a_question_is_refuted_by_lemmas.Goals as goal

pub returns-clause-exists : goal.returns-clause-exists
returns-clause-exists c = c.refuted_questions_have_answers.ensures.exists

pub returns-clause-not_exists : goal.returns-clause-not_exists
returns-clause-not_exists c = c.refuted_questions_have_answers.ensures.not_exists

pub returns-clause-forall : goal.returns-clause-forall
returns-clause-forall c = c.refuted_questions_have_answers.ensures.forall

pub returns-clause-unasked : goal.returns-clause-unasked
returns-clause-unasked c = c.refuted_questions_have_answers.ensures.unasked
