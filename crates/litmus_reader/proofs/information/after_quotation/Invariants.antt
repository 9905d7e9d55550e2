use Rattle.litmus_reader.proofs.Vocabulary.{◌≡◌, ◌≤◌, length, quotation_end}
use Rattle.litmus_reader.proofs.information.after_quotation.Given as goal

abbrev pub invariant-loop-first : goal.invariant-loop-first
invariant-loop-first l = record { same : quotation_end l.rest ≡ quotation_end l.bytes; within : length l.rest ≤ length l.bytes }

abbrev pub decreases-loop-first : goal.decreases-loop-first
decreases-loop-first l = length l.rest
