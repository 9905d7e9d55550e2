use Rattle.std.proofs.Common.{◌≡◌, ◌*◌, drop}
use Rattle.protocol_tables.specs.Tables.{table_of}
use Rattle.cache_counts.specs.Traffic.{traffic_from, traffic_of}
use Rattle.cache_counts.specs.inner.Bounds.{IsTrafficAtMost}
use Rattle.cache_counts.proofs.traffic.traffic_of.Given as goal

-- the choices before this place are counted
abbrev pub invariant-loop-noted : goal.invariant-loop-noted
invariant-loop-noted l = record {
  counted : traffic_from (table_of l.protocol) l.core (drop l.noted-index l.uses) l.traffic ≡ traffic_of (table_of l.protocol) l.core l.uses;
  few : IsTrafficAtMost (8 * l.noted-index) l.traffic;
}
