use Rattle.reading_tables.proofs.Vocabulary.{◌≡◌, ◌≤◌, Some, drop, length}
use Rattle.possible_reads.specs.Possible.{combined_values}
use Rattle.reading_tables.specs.inner.Told.{known_of}
use Rattle.reading_tables.proofs.values.all_combined.Given as goal

abbrev pub invariant-loop-left : goal.invariant-loop-left
invariant-loop-left l = record {
  all : known_of l.all ≡ combined_values l.operator (Some (drop l.left l.us)) (Some l.vs);
  within : l.left ≤ length l.us;
}

abbrev pub decreases-loop-left : goal.decreases-loop-left
decreases-loop-left l = l.left
