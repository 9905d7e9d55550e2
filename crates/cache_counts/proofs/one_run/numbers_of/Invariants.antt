use Rattle.std.proofs.Common.{◌≡◌, ◌++◌, drop}
use Rattle.protocol_tables.specs.Tables.{table_of}
use Rattle.cache_counts.specs.Counted.{numbers_from}
use Rattle.cache_counts.proofs.one_run.numbers_of.Given as goal

abbrev pub invariant-loop-core : goal.invariant-loop-core
invariant-loop-core l =
    l.numbers.items ++ numbers_from (table_of l.protocol) l.uses l.core (drop l.core l.counts) ≡ numbers_from (table_of l.protocol) l.uses 0 l.counts
