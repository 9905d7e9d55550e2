use Rattle.std.proofs.Common.{◌≡◌, ◌≤◌, ◌+◌, drop}
use Rattle.protocol_tables.specs.Tables.{table_of}
use Rattle.cache_set.specs.Requests.{snoop_column}
use Rattle.cache_counts.specs.Traffic.{given_up_in}
use Rattle.cache_counts.proofs.traffic.copies_given_up.Given as goal

-- the copies before this place are counted
abbrev pub invariant-loop-state : goal.invariant-loop-state
invariant-loop-state l = record {
  counted : l.copies + given_up_in (snoop_column (table_of l.protocol) l.request.request) (drop l.state-index l.state-items)
      ≡ given_up_in (snoop_column (table_of l.protocol) l.request.request) l.state-items;
  few : l.copies ≤ l.state-index;
}
