use Rattle.litmus_reader.proofs.Vocabulary.{ap, sym, ◌∙◌, arith}
use Rattle.std.proofs.Common.{reverse}
use Rattle.std.proofs.lemmas.List.{get_or-reverse, length-reverse}
use Rattle.litmus_reader.specs.GrammarText.{is_margin}
use Rattle.litmus_reader.proofs.Scans.{prefix_on, prefix_is, prefix_all}
use Rattle.litmus_reader.proofs.header.margin_at_end.Goals as goal

pub loop-at-init : goal.loop-at-init
loop-at-init c = omega arith

pub loop-at-preserved : goal.loop-at-preserved
loop-at-preserved c =
    let n = length-reverse c.args.bytes.now in
    let l = c.loop-at-test.true in
    prefix_on is_margin (reverse c.args.bytes.now) c.loop-at.at 0 (omega (arith, n, l))
    (ap is_margin (get_or-reverse c.args.bytes.now c.loop-at.at 0 l) ∙ sym c.is_margin.ensures ∙ c.if-not-is_margin.false) ∙ c.loop-at.invariant

pub returns-then-not-is_margin-clause-value : goal.returns-then-not-is_margin-clause-value
returns-then-not-is_margin-clause-value c =
    let n = length-reverse c.args.bytes.now in
    let l = c.loop-at-test.true in
    prefix_is is_margin (reverse c.args.bytes.now) c.loop-at.at 0 (omega (arith, n, l))
    (ap is_margin (get_or-reverse c.args.bytes.now c.loop-at.at 0 l) ∙ sym c.is_margin.ensures ∙ c.if-not-is_margin.true) c.loop-at.invariant

pub returns-clause-value : goal.returns-clause-value
returns-clause-value c =
    let n = length-reverse c.args.bytes.now in
    let l = c.loop-at-test.false in
    let m = c.loop-at.auto.at-end in
    sym n ∙ prefix_all is_margin (reverse c.args.bytes.now) c.loop-at.at (omega (arith, n, l)) (omega (arith, n, m)) c.loop-at.invariant
