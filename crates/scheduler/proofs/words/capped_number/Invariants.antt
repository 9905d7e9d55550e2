use Rattle.scheduler.proofs.Vocabulary.{◌≡◌, take, true, min, is_ascii_digit, list_all, decimal_value}
use Rattle.scheduler.proofs.words.capped_number.Given as goal

abbrev pub invariant-loop-byte : goal.invariant-loop-byte
invariant-loop-byte l = record {
  digits : list_all is_ascii_digit (take l.byte-index l.word) ≡ true;
  so_far : l.value ≡ min (decimal_value (take l.byte-index l.word)) l.most;
}
