use Rattle.std.proofs.Common.{arith, ◌≡◌, ◌+◌, ◌*◌, ap, sym, subst, ◌∙◌, drop, ℕ}
use Rattle.std.proofs.lemmas.List.{drop_more}
use Rattle.protocol_tables.specs.Tables.{table_of}
use Rattle.cache_counts.specs.Traffic.{traffic_from}
use Rattle.cache_counts.specs.inner.Bounds.{IsTrafficAtMost}
use Rattle.cache_counts.proofs.traffic.traffic_of.Goals as goal

pub loop-noted-preserved : goal.loop-noted-preserved
loop-noted-preserved c =
    let i = c.loop-noted.noted-index in
    let uses = c.args.uses.now in
    let counted = traffic_from (table_of c.args.protocol) c.args.core in
    record {
      counted = ap (counted (drop (i + 1) uses)) c.with_use_of-traffic.ensures.value
          ∙ sym (ap (λ us. counted us c.loop-noted.traffic) (drop_more uses i _ c.loop-noted-test.true)) ∙ c.loop-noted.invariant.counted;
      few = subst (λ (n : ℕ). IsTrafficAtMost n c.with_use_of-traffic.result) (let z : 8 * i + 8 ≡ 8 * (i + 1) = omega arith in z)
          (c.with_use_of-traffic.ensures.few (8 * i) c.loop-noted.invariant.few);
    }
