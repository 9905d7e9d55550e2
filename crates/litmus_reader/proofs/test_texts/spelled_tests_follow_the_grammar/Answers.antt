use Rattle.litmus_reader.proofs.GrammarTest.{text_again, text_takes}
use Rattle.litmus_reader.proofs.test_texts.spelled_tests_follow_the_grammar.Goals as goal

pub returns-clause-spells : goal.returns-clause-spells
returns-clause-spells c = λ set text t. text_again set text t

pub returns-clause-follows : goal.returns-clause-follows
returns-clause-follows c = λ set text t. text_takes set text t
