use Rattle.tso_report.specs.inner.Arrays.{IsBegun}
use Rattle.tso_report.proofs.Vocabulary.{ap, subst, drop_all, drop_more, map, count}
use Rattle.tso_report.proofs.members.numbers_value.Goals as goal

pub loop-number-preserved : goal.loop-number-preserved
loop-number-preserved c =
    let xs = c.args.numbers.now in
    let still = ap (map count) (drop_more xs c.loop-number.number-index _ c.loop-number-test.true) in
    c.with-values.ensures _ _ _ (subst (λ ds. IsBegun c.loop-number.values ds (map count xs)) still c.loop-number.invariant) c.from.ensures

pub returns : goal.returns
returns c =
    let xs = c.args.numbers.now in
    let none = ap (map count) (drop_all c.loop-number.number-index xs c.loop-number-test.false) in
    c.value.ensures _ (subst (λ ds. IsBegun c.loop-number.values ds (map count xs)) none c.loop-number.invariant)
