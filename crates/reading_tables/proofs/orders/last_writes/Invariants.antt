use Rattle.reading_tables.proofs.Vocabulary.{◌≡◌, drop, ◌++◌, filter}
use Rattle.possible_reads.specs.Possible.{can_be_last}
use Rattle.reading_tables.specs.Told.{facts_of}
use Rattle.reading_tables.specs.inner.Tables.{readings_of}
use Rattle.reading_tables.proofs.orders.last_writes.Given as goal

abbrev pub invariant-loop-w : goal.invariant-loop-w
invariant-loop-w l =
    filter (can_be_last l.told.test.now (facts_of l.told.facts.now) (readings_of l.told.readings.now) l.loc) l.w-items
    ≡ l.writes.items ++ filter (can_be_last l.told.test.now (facts_of l.told.facts.now) (readings_of l.told.readings.now) l.loc) (drop l.w-index l.w-items)
