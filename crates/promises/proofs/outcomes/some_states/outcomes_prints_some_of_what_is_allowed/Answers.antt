use Rattle.promises.proofs.outcomes.some_states.outcomes_prints_some_of_what_is_allowed.Goals as goal

pub returns-clause-ascending : goal.returns-clause-ascending
returns-clause-ascending c = λ t names depth outcomes some. some.ascending

pub returns-clause-spelled : goal.returns-clause-spelled
returns-clause-spelled c = λ t s json out said. said.spelled
