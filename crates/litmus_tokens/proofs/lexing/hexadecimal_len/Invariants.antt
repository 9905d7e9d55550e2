use Rattle.std.proofs.Common.{◌≡◌, ◌+◌, drop}
use Rattle.std.specs.List.{prefix_len}
use Rattle.std.specs.Char as char
use Rattle.litmus_tokens.proofs.lexing.hexadecimal_len.Given as goal

abbrev pub invariant-loop-at : goal.invariant-loop-at
invariant-loop-at l = l.at + prefix_len char.is_ascii_hexdigit (drop l.at l.bytes) ≡ prefix_len char.is_ascii_hexdigit l.bytes
