use Rattle.tso_report.specs.inner.Arrays.{IsBegun}
use Rattle.tso_report.proofs.Vocabulary.{ap, subst, drop_all, drop_more, map, counts_value}
use Rattle.tso_report.proofs.json.cache_value.Goals as goal

pub loop-counts-preserved : goal.loop-counts-preserved
loop-counts-preserved c =
    let xs = c.args.counts.now in
    let still = ap (map counts_value) (drop_more xs c.loop-counts.counts-index _ c.loop-counts-test.true) in
    c.with-values.ensures _ _ _ (subst (λ ds. IsBegun c.loop-counts.values ds (map counts_value xs)) still c.loop-counts.invariant) c.object_of.ensures

pub returns : goal.returns
returns c =
    let xs = c.args.counts.now in
    let none = ap (map counts_value) (drop_all c.loop-counts.counts-index xs c.loop-counts-test.false) in
    c.value.ensures _ (subst (λ ds. IsBegun c.loop-counts.values ds (map counts_value xs)) none c.loop-counts.invariant)
