use Rattle.promises.proofs.texts.readings.a_test_is_read_by_the_grammar_of_a_set.Goals as goal

pub returns-clause-only : goal.returns-clause-only
returns-clause-only c = λ t follows. c.read_test_in.ensures.only t (c.spelled_tests_follow_the_grammar.ensures.spells c.args.set c.args.text.now t follows)
