use Rattle.promises.proofs.models.candidates.candidates_of_executions_are_allowed_ones.Goals as goal

pub returns-clause-candidate : goal.returns-clause-candidate
returns-clause-candidate given = λ t order c p1 p2. (given.candidates_of_executions_are_allowed.ensures.allowed t order c p1 p2).candidate

pub returns-clause-uniproc : goal.returns-clause-uniproc
returns-clause-uniproc given = λ t order c p1 p2. (given.candidates_of_executions_are_allowed.ensures.allowed t order c p1 p2).uniproc

pub returns-clause-atomic : goal.returns-clause-atomic
returns-clause-atomic given = λ t order c p1 p2. (given.candidates_of_executions_are_allowed.ensures.allowed t order c p1 p2).atomic

pub returns-clause-global : goal.returns-clause-global
returns-clause-global given = λ t order c p1 p2. (given.candidates_of_executions_are_allowed.ensures.allowed t order c p1 p2).global

pub returns-clause-memory : goal.returns-clause-memory
returns-clause-memory given = λ t order c p1 p2. (given.candidates_of_executions_are_allowed.ensures.same_state t order c p1 p2).memory

pub returns-clause-registers : goal.returns-clause-registers
returns-clause-registers given = λ t order c p1 p2. (given.candidates_of_executions_are_allowed.ensures.same_state t order c p1 p2).registers
