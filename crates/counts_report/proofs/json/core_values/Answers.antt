use Rattle.std.proofs.Common.{◌+◌, ◌-◌, subst, List}
use Rattle.serde_json.specs.Data.{Data}
use Rattle.tso_report.specs.inner.Arrays.{IsBegun}
use Rattle.counts_report.specs.Json.{core_value, core_values}
use Rattle.counts_report.proofs.Values.{next-value}
use Rattle.counts_report.proofs.json.core_values.Goals as goal

pub loop-core-preserved : goal.loop-core-preserved
loop-core-preserved c =
    let ss = c.args.spreads.now in
    let all = core_values 0 c.args.cores ss in
    c.with-values.ensures (core_value c.loop-core.core ss) (core_values (c.loop-core.core + 1) (c.args.cores - (c.loop-core.core + 1)) ss) all
    (subst (λ (ds : List Data). IsBegun c.loop-core.values ds all)
    (next-value c.loop-core.core c.args.cores ss c.loop-core-test.true) c.loop-core.invariant)
    c.core_value.ensures
