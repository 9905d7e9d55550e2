use Rattle.litmus_reader.proofs.Vocabulary.{◌≡◌, ◌+◌, drop, prefix_len}
use Rattle.litmus_reader.specs.GrammarText.{is_margin}
use Rattle.litmus_reader.proofs.header.margin_in_front.Given as goal

abbrev pub invariant-loop-at : goal.invariant-loop-at
invariant-loop-at l = l.at + prefix_len is_margin (drop l.at l.bytes) ≡ prefix_len is_margin l.bytes
