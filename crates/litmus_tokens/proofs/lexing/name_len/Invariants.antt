use Rattle.std.proofs.Common.{◌≡◌, ◌<◌, ◌+◌, drop}
use Rattle.std.specs.List.{prefix_len}
use Rattle.tso_terms.specs.Names as names
use Rattle.litmus_tokens.proofs.lexing.name_len.Given as goal

abbrev pub invariant-loop-at : goal.invariant-loop-at
invariant-loop-at l = record { some : 0 < l.at; same : l.at + prefix_len names.continues_name (drop l.at l.bytes) ≡ prefix_len names.continues_name l.bytes }
