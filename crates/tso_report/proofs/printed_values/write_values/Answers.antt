use Rattle.tso_report.proofs.Vocabulary.{◌≤◌, length, arith, min, string_bytes}
use Rattle.tso_report.proofs.Texts.{values-end}
use Rattle.tso_report.proofs.printed_values.write_values.Goals as goal

pub returns : goal.returns
returns c =
    let past : min (length c.args.names.now) (length c.args.values.now) ≤ c.loop-at.at = omega (arith, c.min-at-end.ensures, c.loop-at-test.false) in
    values-end c.args.test.now c.loop-at.at c.args.names.now c.args.values.now (string_bytes c.loop-at.text) _ past c.loop-at.invariant
