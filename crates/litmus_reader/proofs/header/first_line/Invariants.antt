use Rattle.litmus_reader.proofs.Vocabulary.{◌≡◌, ◌+◌, drop, eqb, position_or_len}
use Rattle.litmus_reader.proofs.header.first_line.Given as goal

abbrev pub invariant-loop-at : goal.invariant-loop-at
invariant-loop-at l = l.at + position_or_len (λ b. eqb b 10) (drop l.at l.bytes) ≡ position_or_len (λ b. eqb b 10) l.bytes
