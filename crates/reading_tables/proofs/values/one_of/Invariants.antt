use Rattle.reading_tables.proofs.Vocabulary.{◌≡◌, ◌≤◌, ◌∷◌, [], Some, drop, length, map}
use Rattle.possible_reads.specs.Possible.{any_of}
use Rattle.reading_tables.specs.inner.Told.{known_of}
use Rattle.reading_tables.proofs.values.one_of.Given as goal

abbrev pub invariant-loop-left : goal.invariant-loop-left
invariant-loop-left l =
    record { all : known_of l.all ≡ any_of (map (λ n. Some (n ∷ [])) (drop l.left l.values)); within : l.left ≤ length l.values }

abbrev pub decreases-loop-left : goal.decreases-loop-left
decreases-loop-left l = l.left
