use Rattle.litmus_reader.proofs.Vocabulary.{length, braces_at}
use Rattle.litmus_reader.proofs.Informed.{BracesAfter}
use Rattle.litmus_reader.proofs.information.braces_at.Given as goal

abbrev pub invariant-loop-at : goal.invariant-loop-at
invariant-loop-at l = BracesAfter l.rest (braces_at l.bytes)

abbrev pub decreases-loop-at : goal.decreases-loop-at
decreases-loop-at l = length l.rest
