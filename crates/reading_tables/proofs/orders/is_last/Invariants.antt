use Rattle.reading_tables.proofs.Vocabulary.{◌≡◌, drop, list_all, filter}
use Rattle.possible_reads.specs.Possible.{can_be_last}
use Rattle.reading_tables.specs.Told.{facts_of}
use Rattle.reading_tables.specs.inner.Tables.{readings_of}
use Rattle.refutation_laws.specs.Known.{same_event}
use Rattle.reading_tables.proofs.orders.is_last.Given as goal

abbrev pub invariant-loop-w : goal.invariant-loop-w
invariant-loop-w l =
    list_all (same_event l.v) (filter (can_be_last l.told.test.now (facts_of l.told.facts.now) (readings_of l.told.readings.now) l.v.loc.0) l.w-items)
    ≡ list_all (same_event l.v)
    (filter (can_be_last l.told.test.now (facts_of l.told.facts.now) (readings_of l.told.readings.now) l.v.loc.0) (drop l.w-index l.w-items))
