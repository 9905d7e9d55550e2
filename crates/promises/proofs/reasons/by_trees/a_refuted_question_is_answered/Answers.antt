use Rattle.promises.proofs.reasons.by_trees.a_refuted_question_is_answered.Goals as goal

pub returns-clause-names : goal.returns-clause-names
returns-clause-names c = c.refuted_questions_are_answered.ensures.names

pub returns-clause-exists : goal.returns-clause-exists
returns-clause-exists c = c.refuted_questions_are_answered.ensures.exists

pub returns-clause-not_exists : goal.returns-clause-not_exists
returns-clause-not_exists c = c.refuted_questions_are_answered.ensures.not_exists

pub returns-clause-forall : goal.returns-clause-forall
returns-clause-forall c = c.refuted_questions_are_answered.ensures.forall

pub returns-clause-unasked : goal.returns-clause-unasked
returns-clause-unasked c = c.refuted_questions_are_answered.ensures.unasked
