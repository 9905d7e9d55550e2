use Rattle.promises.proofs.printed.lines_by_hand.what_is_given_comes_first.Goals as goal

pub returns-clause-given : goal.returns-clause-given
returns-clause-given c = λ model t claim lines read. read.given

pub returns-clause-lemmas : goal.returns-clause-lemmas
returns-clause-lemmas c = λ model t given shown left number lemma lines read. read.line

pub returns-clause-refute : goal.returns-clause-refute
returns-clause-refute c = λ model t given shown left number lemma lines read. read.refute

pub returns-clause-others : goal.returns-clause-others
returns-clause-others c = λ model t given shown left number lemma lines read. read.others

pub returns-clause-turns : goal.returns-clause-turns
returns-clause-turns c = λ model t claim lines read. read.refute
