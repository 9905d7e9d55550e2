use Rattle.reading_tables.proofs.Vocabulary.{◌≡◌, drop, ◌≤◌, length}
use Rattle.reading_tables.specs.inner.Tables.{readings_of}
use Rattle.reading_tables.proofs.equality.same_readings.Given as goal

abbrev pub invariant-loop-left : goal.invariant-loop-left
invariant-loop-left l =
    record {
      same : readings_of (drop l.left l.xs) ≡ readings_of (drop l.left l.ys);
      within : l.left ≤ length l.xs;
    }

abbrev pub decreases-loop-left : goal.decreases-loop-left
decreases-loop-left l = l.left
