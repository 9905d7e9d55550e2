use Rattle.promises.proofs.printed.verdicts.numbers_name_the_true_states.Goals as goal

pub returns-clause-last : goal.returns-clause-last
returns-clause-last c = λ t search claim outcomes out said. (said.last.front, said.last.as_claimed, said.last.text)

pub returns-clause-named : goal.returns-clause-named
returns-clause-named c = λ t search claim outcomes out said. said.states.named

pub returns-clause-within : goal.returns-clause-within
returns-clause-within c = λ t search claim outcomes out said. said.states.within
