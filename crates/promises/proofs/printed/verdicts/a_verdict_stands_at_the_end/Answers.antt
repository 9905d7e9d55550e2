use Rattle.promises.proofs.printed.verdicts.a_verdict_stands_at_the_end.Goals as goal

pub returns-clause-line : goal.returns-clause-line
returns-clause-line c = λ word out said. (said.front, said.text)

pub returns-clause-member : goal.returns-clause-member
returns-clause-member c = λ word out said. (said.front, said.text)
