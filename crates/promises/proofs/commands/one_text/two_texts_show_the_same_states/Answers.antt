use Rattle.promises.proofs.commands.one_text.two_texts_show_the_same_states.Goals as goal

pub returns-clause-first : goal.returns-clause-first
returns-clause-first c = λ s json out other said. said.first

pub returns-clause-second : goal.returns-clause-second
returns-clause-second c = λ s json out other said. said.second

pub returns-clause-alike : goal.returns-clause-alike
returns-clause-alike c = λ s json out other said. said.alike

pub returns-clause-values : goal.returns-clause-values
returns-clause-values c = λ t names outcomes others said. said.values

pub returns-clause-holds : goal.returns-clause-holds
returns-clause-holds c = λ t names outcomes others said. said.holds

pub returns-clause-held : goal.returns-clause-held
returns-clause-held c = λ t names outcomes others said. said.held

pub returns-clause-failed : goal.returns-clause-failed
returns-clause-failed c = λ t names outcomes others said. said.failed

pub returns-clause-numbers : goal.returns-clause-numbers
returns-clause-numbers c = λ t names outcomes others said. said.numbers
