use Rattle.promises.proofs.commands.headline.joinable_texts_end_their_last_line.Goals as goal

pub returns-clause-ends : goal.returns-clause-ends
returns-clause-ends c = λ text said. said.ends

pub returns-clause-undivided : goal.returns-clause-undivided
returns-clause-undivided c = λ text said. said.undivided
