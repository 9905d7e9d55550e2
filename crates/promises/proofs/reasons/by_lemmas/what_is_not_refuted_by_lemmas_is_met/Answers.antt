use Rattle.promises.proofs.RefutingByLemmas.{candidate-of, execution-of, run-of}
use Rattle.promises.proofs.reasons.by_lemmas.what_is_not_refuted_by_lemmas_is_met.Goals as goal

pub returns-clause-candidate : goal.returns-clause-candidate
returns-clause-candidate c = λ model t claim test names none.
    candidate-of model t claim none (c.refutations_by_lemmas_are_complete.ensures.candidates model t claim test names)

pub returns-clause-execution : goal.returns-clause-execution
returns-clause-execution c = λ model t claim test names none.
    execution-of model t claim none (c.refutations_by_lemmas_are_complete.ensures.executions model t claim test names)

pub returns-clause-ended_run : goal.returns-clause-ended_run
returns-clause-ended_run c = λ model t claim test names none.
    run-of model t claim none (c.refutations_by_lemmas_are_complete.ensures.runs model t claim test names)
