use Rattle.litmus_tokens.specs.declared.instructions.Instructions.TheVariants.{Basic}
use Rattle.promises.proofs.texts.readings.a_test_is_read_by_the_grammar.Goals as goal

pub returns-clause-only : goal.returns-clause-only
returns-clause-only c = λ t follows. c.read_test.ensures.only t (c.spelled_tests_follow_the_grammar.ensures.spells Basic c.args.text.now t follows)
