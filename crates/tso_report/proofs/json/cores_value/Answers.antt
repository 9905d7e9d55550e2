use Rattle.tso_report.specs.inner.Arrays.{IsBegun}
use Rattle.tso_report.proofs.Vocabulary.{ap, subst, drop_all, drop_more, map, registers_value}
use Rattle.tso_report.proofs.json.cores_value.Goals as goal

pub loop-registers-preserved : goal.loop-registers-preserved
loop-registers-preserved c =
    let xs = c.args.registers.now in
    let still = ap (map registers_value) (drop_more xs c.loop-registers.registers-index _ c.loop-registers-test.true) in
    c.with-values.ensures _ _ _
    (subst (λ ds. IsBegun c.loop-registers.values ds (map registers_value xs)) still c.loop-registers.invariant)
    c.registers_value.ensures

pub returns : goal.returns
returns c =
    let xs = c.args.registers.now in
    let none = ap (map registers_value) (drop_all c.loop-registers.registers-index xs c.loop-registers-test.false) in
    c.value.ensures _ (subst (λ ds. IsBegun c.loop-registers.values ds (map registers_value xs)) none c.loop-registers.invariant)
