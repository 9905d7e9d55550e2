use Rattle.std.proofs.Common.{◌≡◌, ◌+◌, drop, ◌==◌}
use Rattle.std.specs.List.{prefix_len}
use Rattle.litmus_tokens.proofs.lexing.zeros_in_front.Given as goal

abbrev pub invariant-loop-at : goal.invariant-loop-at
invariant-loop-at l = l.at + prefix_len (λ d. d == 48) (drop l.at l.digits) ≡ prefix_len (λ d. d == 48) l.digits
