use Rattle.reading_tables.proofs.Vocabulary.{◌≡◌, ◌≤◌, drop, length}
use Rattle.reading_tables.proofs.equality.equal_sources.Given as goal

abbrev pub invariant-loop-left : goal.invariant-loop-left
invariant-loop-left l = record { same : drop l.left l.xs ≡ drop l.left l.ys; within : l.left ≤ length l.xs }

abbrev pub decreases-loop-left : goal.decreases-loop-left
decreases-loop-left l = l.left
