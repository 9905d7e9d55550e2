use Rattle.promises.proofs.commands.headline.a_test_or_its_refusal_is_answered.Goals as goal

pub returns-clause-every_test : goal.returns-clause-every_test
returns-clause-every_test c = λ s parts out said. said.every_test

pub returns-clause-every_other : goal.returns-clause-every_other
returns-clause-every_other c = λ s parts out said. said.every_other
