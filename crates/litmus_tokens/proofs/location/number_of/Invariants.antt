use Rattle.std.proofs.Common.{◌≡◌, ◌+◌, drop}
use Rattle.std.specs.List.{position_or_len}
use Rattle.litmus_tokens.proofs.Numbering.{is_name}
use Rattle.litmus_tokens.proofs.location.number_of.Given as goal

abbrev pub invariant-loop-number : goal.invariant-loop-number
invariant-loop-number l = l.number + position_or_len (is_name l.name) (drop l.number l.names) ≡ position_or_len (is_name l.name) l.names
