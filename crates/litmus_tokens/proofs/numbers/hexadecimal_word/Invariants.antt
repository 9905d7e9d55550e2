use Rattle.std.proofs.Common.{◌≡◌, ◌≤◌, drop}
use Rattle.std.specs.Str.Parse.{digits_value_after}
use Rattle.litmus_tokens.specs.Numbers.{hexadecimal_value}
use Rattle.litmus_tokens.proofs.numbers.hexadecimal_word.Given as goal

abbrev pub invariant-loop-digit : goal.invariant-loop-digit
invariant-loop-digit l = record { same : digits_value_after 16 l.value (drop l.digit-index l.digits) ≡ hexadecimal_value l.digits; fits : l.value ≤ 4294967295 }
