use Rattle.reading_tables.proofs.Vocabulary.{◌≡◌, ◌≤◌, Some, drop, length}
use Rattle.possible_reads.specs.Possible.{exchanged_values}
use Rattle.reading_tables.specs.inner.Told.{known_of}
use Rattle.reading_tables.proofs.values.all_exchanged.Given as goal

abbrev pub invariant-loop-left : goal.invariant-loop-left
invariant-loop-left l = record {
  all : known_of l.all ≡ exchanged_values (Some (drop l.left l.words)) (known_of l.eax) (known_of l.new);
  within : l.left ≤ length l.words;
}

abbrev pub decreases-loop-left : goal.decreases-loop-left
decreases-loop-left l = l.left
