use Rattle.litmus_reader.proofs.Vocabulary.{sym, ◌∙◌, arith}
use Rattle.litmus_reader.specs.GrammarText.{is_margin}
use Rattle.litmus_reader.proofs.Scans.{prefix_on, prefix_is, prefix_all}
use Rattle.litmus_reader.proofs.header.margin_in_front.Goals as goal

pub loop-at-init : goal.loop-at-init
loop-at-init c = omega arith

pub loop-at-preserved : goal.loop-at-preserved
loop-at-preserved c =
    prefix_on is_margin c.args.bytes.now c.loop-at.at _ c.loop-at-test.true (sym c.is_margin.ensures ∙ c.if-not-is_margin.false)
    ∙ c.loop-at.invariant

pub returns-then-not-is_margin-clause-value : goal.returns-then-not-is_margin-clause-value
returns-then-not-is_margin-clause-value c =
    prefix_is is_margin c.args.bytes.now c.loop-at.at _ c.loop-at-test.true (sym c.is_margin.ensures ∙ c.if-not-is_margin.true) c.loop-at.invariant

pub returns-clause-value : goal.returns-clause-value
returns-clause-value c = prefix_all is_margin c.args.bytes.now c.loop-at.at c.loop-at-test.false c.loop-at.auto.at-end c.loop-at.invariant
