use Rattle.litmus_reader.proofs.Vocabulary.{length, square_end}
use Rattle.litmus_reader.proofs.Squares.{SquareAfter}
use Rattle.litmus_reader.proofs.observed.after_square.Given as goal

abbrev pub invariant-loop-at : goal.invariant-loop-at
invariant-loop-at l = SquareAfter l.remaining l.rest (square_end l.remaining l.bytes)

abbrev pub decreases-loop-at : goal.decreases-loop-at
decreases-loop-at l = length l.rest
