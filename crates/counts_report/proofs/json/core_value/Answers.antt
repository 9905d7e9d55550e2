use Rattle.std.proofs.Common.{◌≡◌, ◌*◌, ◌+◌, ◌-◌, ◌≤◌, ◌<◌, ℕ, arith, drop, length, slice_index_or, sym, subst, ap, ◌∙◌}
use Rattle.serde_json.specs.Data.{Members, put}
use Rattle.std.specs.Prelude.{IfOk}
use Rattle.serde_json.specs.View.{view}
use Rattle.cache_counts.specs.declared.spread.Spread.{Spread}
use Rattle.tso_report.specs.inner.Objects.{HasMembers}
use Rattle.counts_report.specs.Printed.{count_names, no_spread}
use Rattle.counts_report.proofs.Lines.{twelve-names}
use Rattle.counts_report.specs.Json.{spread_value, spreads_members}
use Rattle.counts_report.proofs.Values.{none-left, one-before}
use Rattle.counts_report.proofs.json.core_value.Goals as goal

pub loop-number-init : goal.loop-number-init
loop-number-init c =
    subst (λ (ms : Members). HasMembers c.new-numbers.result ms)
    (sym (none-left (12 * c.args.core) 12 count_names c.args.spreads.now (let size = twelve-names in let z : length count_names ≤ 12 = omega arith in z)))
    c.new-numbers.ensures

pub loop-number-preserved : goal.loop-number-preserved
loop-number-preserved c =
    let ss = c.args.spreads.now in
    let i = c.loop-number.number - 1 in
    let some = c.loop-number-test.true in
    let most = c.loop-number.auto.number in
    let size = twelve-names in
    let here : i + 1 ≡ c.loop-number.number = omega arith in
    let below : i < length count_names = omega arith in
    let before : HasMembers c.loop-number.numbers (spreads_members (12 * c.args.core + (i + 1)) (drop (i + 1) count_names) ss) =
    subst (λ (n : ℕ). HasMembers c.loop-number.numbers (spreads_members (12 * c.args.core + n) (drop n count_names) ss)) (sym here) c.loop-number.invariant in
    let value = spread_value (slice_index_or ss (12 * c.args.core + i) no_spread) in
    subst (λ (ms : Members). HasMembers c.member-numbers.result ms)
    (ap (λ name. put name value (spreads_members (12 * c.args.core + (i + 1)) (drop (i + 1) count_names) ss)) c.name_at.ensures
    ∙ one-before (12 * c.args.core) i count_names ss below)
    (c.member-numbers.ensures _ value before
    (subst (λ (s : Spread). IfOk c.spread_value.result (λ made. view made ≡ spread_value s)) c.spread_at-spread.ensures c.spread_value.ensures))
