use Rattle.order_builder.proofs.Vocabulary.{◌≡◌, ◌≤◌, drop, decimal_from, decimal_value, list_all, is_ascii_digit}
use Rattle.order_builder.proofs.numbers.number_within.Given as goal

abbrev pub invariant-loop-byte : goal.invariant-loop-byte
invariant-loop-byte l = record {
  same : decimal_from l.value (drop l.byte-index l.text) ≡ decimal_value l.text;
  digits : list_all is_ascii_digit l.text ≡ list_all is_ascii_digit (drop l.byte-index l.text);
  fits : l.value ≤ l.most;
}
