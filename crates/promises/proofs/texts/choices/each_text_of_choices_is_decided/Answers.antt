use Rattle.promises.proofs.texts.choices.each_text_of_choices_is_decided.Goals as goal

pub returns-clause-one_list : goal.returns-clause-one_list
returns-clause-one_list c = λ cores text p1. (c.texts_are_decided.ensures cores text p1).one_list

pub returns-clause-one_refusal : goal.returns-clause-one_refusal
returns-clause-one_refusal c = λ cores text p1. (c.texts_are_decided.ensures cores text p1).one_refusal

pub returns-clause-never_both : goal.returns-clause-never_both
returns-clause-never_both c = λ cores text p1. (c.texts_are_decided.ensures cores text p1).never_both

pub returns-clause-always : goal.returns-clause-always
returns-clause-always c = λ cores text p1. (c.texts_are_decided.ensures cores text p1).always
