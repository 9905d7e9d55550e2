use Rattle.reading_tables.proofs.Vocabulary.{◌≡◌, drop, map, ◌≤◌, length}
use Rattle.possible_reads.specs.Possible.{any_of, values_from}
use Rattle.reading_tables.specs.inner.Tables.{readings_of}
use Rattle.reading_tables.specs.inner.Told.{known_of}
use Rattle.reading_tables.proofs.rounds.values_from_any.Given as goal

abbrev pub invariant-loop-left : goal.invariant-loop-left
invariant-loop-left l =
    record {
      all : known_of l.all ≡ any_of (map (values_from l.told.test.now (readings_of l.told.readings.now) l.read) (drop l.left l.sources));
      within : l.left ≤ length l.sources;
    }

abbrev pub decreases-loop-left : goal.decreases-loop-left
decreases-loop-left l = l.left
