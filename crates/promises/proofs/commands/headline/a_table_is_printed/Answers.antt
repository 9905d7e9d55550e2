use Rattle.promises.proofs.commands.headline.a_table_is_printed.Goals as goal

pub returns-clause-text : goal.returns-clause-text
returns-clause-text c = λ kind out status said. said.text

pub returns-clause-status_is : goal.returns-clause-status_is
returns-clause-status_is c = λ kind out status said. said.status_is
