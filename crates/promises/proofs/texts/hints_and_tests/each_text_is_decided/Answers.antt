use Rattle.promises.proofs.texts.hints_and_tests.each_text_is_decided.Goals as goal

pub returns-clause-one_test : goal.returns-clause-one_test
returns-clause-one_test c = λ set text. (c.texts_are_decided.ensures set text).one_test

pub returns-clause-one_refusal : goal.returns-clause-one_refusal
returns-clause-one_refusal c = λ set text. (c.texts_are_decided.ensures set text).one_refusal

pub returns-clause-never_both : goal.returns-clause-never_both
returns-clause-never_both c = λ set text. (c.texts_are_decided.ensures set text).never_both

pub returns-clause-always : goal.returns-clause-always
returns-clause-always c = λ set text. (c.texts_are_decided.ensures set text).always
