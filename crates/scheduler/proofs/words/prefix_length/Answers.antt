use Rattle.scheduler.proofs.Vocabulary.{arith}
use Rattle.scheduler.proofs.FirstWord.{prefix-ends, prefix-more, prefix-whole}
use Rattle.scheduler.proofs.words.prefix_length.Goals as goal

pub returns-then-is_space-of_space-clause-value : goal.returns-then-is_space-of_space-clause-value
returns-then-is_space-of_space-clause-value c =
    prefix-ends c.args.of_space c.args.text.now c.loop-at.at c.loop-at-test.true (rw c.is_space.ensures at c.if-is_space-of_space.true) c.loop-at.invariant

pub loop-at-preserved : goal.loop-at-preserved
loop-at-preserved c =
    prefix-more c.args.of_space c.args.text.now c.loop-at.at c.loop-at-test.true (rw c.is_space.ensures at c.if-is_space-of_space.false) c.loop-at.invariant

pub returns-clause-value : goal.returns-clause-value
returns-clause-value c =
    prefix-whole c.args.of_space c.args.text.now c.loop-at.at (omega (arith, c.loop-at-test.false, c.loop-at.auto.at-end)) c.loop-at.invariant
