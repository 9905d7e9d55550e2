use Rattle.promises.proofs.commands.headline.outcomes_prints_what_is_allowed.Goals as goal

pub returns-clause-printed : goal.returns-clause-printed
returns-clause-printed c = λ t s json out said. said.printed

pub returns-clause-all : goal.returns-clause-all
returns-clause-all c = λ t s json out said. said.all

pub returns-clause-tso : goal.returns-clause-tso
returns-clause-tso c = λ t s json out said. said.tso

pub returns-clause-sequential : goal.returns-clause-sequential
returns-clause-sequential c = λ t s json out said. said.sequential

pub returns-clause-spelled : goal.returns-clause-spelled
returns-clause-spelled c = λ t s json out said. said.spelled
