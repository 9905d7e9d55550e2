use Rattle.litmus_reader.proofs.Within.{spelled_is_test}
use Rattle.litmus_reader.proofs.test_texts.test_is_spelled_once.Goals as goal

pub returns-clause-once : goal.returns-clause-once
returns-clause-once c = λ set text t other p q. (c.texts_are_decided.ensures set text).one_test t other p q

pub returns-clause-never_both : goal.returns-clause-never_both
returns-clause-never_both c = λ set text t fault p q. (c.texts_are_decided.ensures set text).never_both t fault p q

pub returns-clause-one_refusal : goal.returns-clause-one_refusal
returns-clause-one_refusal c = λ set text fault other p q. (c.texts_are_decided.ensures set text).one_refusal fault other p q

pub returns-clause-within : goal.returns-clause-within
returns-clause-within c = λ set text t p. spelled_is_test set text t p

pub returns-clause-short : goal.returns-clause-short
returns-clause-short c = λ set text t p. (c.spelled_tests_follow_the_grammar.ensures.follows set text t p).is.small
