use Rattle.promises.proofs.models.candidates.what_is_forbidden_is_a_candidate.Goals as goal

pub returns-clause-forbidden : goal.returns-clause-forbidden
returns-clause-forbidden given = λ t c said. said.candidate

pub returns-clause-not_allowed : goal.returns-clause-not_allowed
returns-clause-not_allowed given = λ t c said. said.never

pub returns-clause-forbidden_by_uniproc : goal.returns-clause-forbidden_by_uniproc
returns-clause-forbidden_by_uniproc given = λ t c said. said.candidate

pub returns-clause-atomic : goal.returns-clause-atomic
returns-clause-atomic given = λ t c said. said.atomic

pub returns-clause-global : goal.returns-clause-global
returns-clause-global given = λ t c said. said.global

pub returns-clause-not_uniproc : goal.returns-clause-not_uniproc
returns-clause-not_uniproc given = λ t c said. said.never
