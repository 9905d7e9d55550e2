use Rattle.promises.proofs.printed.lines_by_hand.a_closed_case_has_its_line.Goals as goal

pub returns-clause-answer : goal.returns-clause-answer
returns-clause-answer c = λ model t lemmas facts question lines answer read. read.among

pub returns-clause-line : goal.returns-clause-line
returns-clause-line c = λ model t lemmas facts question lines answer read. read.line

pub returns-clause-leaf : goal.returns-clause-leaf
returns-clause-leaf c = λ model t lemmas facts lines read. read.line

pub returns-clause-words : goal.returns-clause-words
returns-clause-words c = λ model t lemmas facts closing read. read.words

pub returns-clause-stands : goal.returns-clause-stands
returns-clause-stands c = λ model t lemmas facts closing read. read.stands

pub returns-clause-unanswered : goal.returns-clause-unanswered
returns-clause-unanswered c = λ model t lemmas facts closing read. read.unanswered

pub returns-clause-case_closes : goal.returns-clause-case_closes
returns-clause-case_closes c = λ model t lemmas facts question lines answer read. read.closes

pub returns-clause-leaf_closes : goal.returns-clause-leaf_closes
returns-clause-leaf_closes c = λ model t lemmas facts lines read. read.closes
