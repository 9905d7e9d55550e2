use Rattle.promises.proofs.printed.lines_by_hand.a_question_has_its_cases.Goals as goal

pub returns-clause-stands : goal.returns-clause-stands
returns-clause-stands c = λ n model t lemmas facts lines read. read.stands

pub returns-clause-answered : goal.returns-clause-answered
returns-clause-answered c = λ n model t lemmas facts lines read. read.answered

pub returns-clause-cases : goal.returns-clause-cases
returns-clause-cases c = λ n model t lemmas facts lines read. read.cases

pub returns-clause-line : goal.returns-clause-line
returns-clause-line c = λ n model t lemmas facts question lines answer read. read.line

pub returns-clause-part : goal.returns-clause-part
returns-clause-part c = λ n model t lemmas facts question lines answer read. read.refute
