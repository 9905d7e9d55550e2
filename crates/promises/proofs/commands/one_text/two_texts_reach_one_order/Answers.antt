use Rattle.promises.proofs.commands.one_text.two_texts_reach_one_order.Goals as goal

pub returns-clause-first : goal.returns-clause-first
returns-clause-first c = λ depth out other said. said.first

pub returns-clause-second : goal.returns-clause-second
returns-clause-second c = λ depth out other said. said.second

pub returns-clause-lead : goal.returns-clause-lead
returns-clause-lead c = λ depth out other said. said.lead

pub returns-clause-lead_too : goal.returns-clause-lead_too
returns-clause-lead_too c = λ depth out other said. said.lead_too
