use Rattle.promises.proofs.commands.why.a_text_without_a_reason_names_its_limit.Goals as goal

pub returns-clause-printed : goal.returns-clause-printed
returns-clause-printed c = λ t plan json out said. said.printed

pub returns-clause-fewer : goal.returns-clause-fewer
returns-clause-fewer c = λ t plan json out said. said.fewer
