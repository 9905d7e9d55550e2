use Rattle.litmus_reader.proofs.Vocabulary.{◌≡◌, ◌≤◌, length, drop, prefix_len}
use Rattle.litmus_reader.specs.GrammarText.{continues_key}
use Rattle.litmus_reader.proofs.information.after_key_line.Given as goal

abbrev pub invariant-key : goal.invariant-key
invariant-key l = record {
  same : drop (prefix_len continues_key l.rest) l.rest ≡ drop (prefix_len continues_key l.bytes) l.bytes;
  within : length l.rest ≤ length l.bytes;
}

abbrev pub decreases-key : goal.decreases-key
decreases-key l = length l.rest
