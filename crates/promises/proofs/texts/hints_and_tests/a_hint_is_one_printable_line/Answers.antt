use Rattle.promises.proofs.texts.hints_and_tests.a_hint_is_one_printable_line.Goals as goal

pub returns-clause-is : goal.returns-clause-is
returns-clause-is c = λ text said. said.is

pub returns-clause-printable : goal.returns-clause-printable
returns-clause-printable c = λ text said. said.printable

pub returns-clause-short : goal.returns-clause-short
returns-clause-short c = λ text said. said.short
