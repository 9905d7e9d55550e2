use Rattle.reading_tables.proofs.Vocabulary.{◌≡◌, ◌++◌, [], true, drop, filter, list_all, map}
use Rattle.possible_reads.specs.Possible.{reading_after}
use Rattle.reading_tables.specs.Told.{facts_of}
use Rattle.reading_tables.specs.inner.Tables.{is_of_core, readings_of}
use Rattle.reading_tables.specs.inner.Plain.{is_no_load_part}
use Rattle.tso_terms.specs.ProgramOrder.{is_read}
use Rattle.reading_tables.proofs.plain.plain_readings.Given as goal

abbrev pub invariant-loop-e : goal.invariant-loop-e
invariant-loop-e l =
    record {
      own : l.own.events.items ≡ filter (is_of_core l.own.core.0) l.e-items;
      parts : list_all is_no_load_part (drop l.e-index l.e-items) ≡ true;
      readings : map (reading_after l.told.test.now (facts_of l.told.facts.now) []) (filter is_read l.e-items)
          ≡ readings_of l.readings.items
          ++ map (reading_after l.told.test.now (facts_of l.told.facts.now) []) (filter is_read (drop l.e-index l.e-items));
    }
