use Rattle.order_builder.proofs.Vocabulary.{arith}
use Rattle.order_builder.proofs.LineLemmas.{split_once-first, split_once-nowhere}
use Rattle.order_builder.proofs.lines.split_once.Goals as goal

pub returns-then-text-at-clause-value : goal.returns-then-text-at-clause-value
returns-then-text-at-clause-value c = split_once-first c.args.byte c.args.text.now c.loop-at.at c.loop-at-test.true c.loop-at.invariant c.if-text-at.true

pub returns-clause-value : goal.returns-clause-value
returns-clause-value c =
    split_once-nowhere c.args.byte c.args.text.now c.loop-at.at (omega (
      arith,
      c.loop-at-test.false,
      c.loop-at.auto.at-end,
    )) c.loop-at.invariant
