use Rattle.std.proofs.Common.{◌+◌, drop}
use Rattle.std.proofs.lemmas.List.{drop_more}
use Rattle.protocol_tables.specs.Tables.{table_of}
use Rattle.cache_counts.proofs.Numbers.{next-core}
use Rattle.cache_counts.proofs.one_run.numbers_of.Goals as goal

pub loop-core-preserved : goal.loop-core-preserved
loop-core-preserved c =
    let cs = c.args.counts.now in
    let core = c.loop-core.core in
    next-core (table_of c.args.protocol) c.args.uses.now core _ c.traffic_of.result (drop (core + 1) cs) (drop core cs)
    c.loop-core.numbers.items c.extend_from_slice.new.self.items _ _
    c.in_ok-extend_from_slice.ensures.items c.core_numbers-own.ensures c.traffic_of.ensures (drop_more cs core _ c.loop-core-test.true) c.loop-core.invariant
