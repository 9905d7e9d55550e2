use Rattle.promises.proofs.commands.headline.an_order_is_reported.Goals as goal

pub returns-clause-test_spelled : goal.returns-clause-test_spelled
returns-clause-test_spelled given = λ kind c set json parts out said. said.test_spelled

pub returns-clause-order_spelled : goal.returns-clause-order_spelled
returns-clause-order_spelled given = λ kind c set json parts out said. said.order_spelled

pub returns-clause-printed : goal.returns-clause-printed
returns-clause-printed given = λ kind c set json parts out said. said.printed

pub returns-clause-reached : goal.returns-clause-reached
returns-clause-reached given = λ kind c set json parts out said. said.reached

pub returns-clause-stalled : goal.returns-clause-stalled
returns-clause-stalled given = λ kind c set json parts out said. said.stalled

pub returns-clause-unused : goal.returns-clause-unused
returns-clause-unused given = λ kind c set json parts out said. said.unused
