use Rattle.reading_tables.proofs.Vocabulary.{◌≡◌, ◌≤◌, drop, length}
use Rattle.possible_reads.specs.Possible.{union}
use Rattle.reading_tables.proofs.values.union.Given as goal

abbrev pub invariant-loop-left : goal.invariant-loop-left
invariant-loop-left l = record { all : l.all.items ≡ union (drop l.left l.us) l.fn.vs.items; within : l.left ≤ length l.us }

abbrev pub decreases-loop-left : goal.decreases-loop-left
decreases-loop-left l = l.left
