use Rattle.tso_report.specs.inner.Arrays.{IsBegun}
use Rattle.trace_report.proofs.Vocabulary.{◌∙◌, map, ap, subst, drop_more, drop_all, string, printed_change}
use Rattle.trace_report.proofs.Listed.{view-text, all-written}
use Rattle.trace_report.proofs.step_as_json.changes_value.Goals as goal

pub loop-change-preserved : goal.loop-change-preserved
loop-change-preserved c =
    let xs = c.args.changes.now in
    let text = printed_change c.args.test.now c.args.words in
    let still = ap (λ l. map string (map text l)) (drop_more xs c.loop-change.change-index _ c.loop-change-test.true) in
    c.with-values.ensures _ _ _ (subst (λ ds. IsBegun c.loop-change.values ds (map string (map text xs))) still c.loop-change.invariant)
    (view-text c.write_change.new.text ∙ ap string (all-written _ _ _ c.new-text.ensures.bytes c.in_ok-write_change.ensures))

pub write_change-requires : goal.write_change-requires
write_change-requires c = c.requires c.loop-change.change-index _ c.loop-change-test.true

pub returns : goal.returns
returns c =
    let xs = c.args.changes.now in
    let text = printed_change c.args.test.now c.args.words in
    let none = ap (λ l. map string (map text l)) (drop_all c.loop-change.change-index xs c.loop-change-test.false) in
    c.value.ensures _ (subst (λ ds. IsBegun c.loop-change.values ds (map string (map text xs))) none c.loop-change.invariant)
