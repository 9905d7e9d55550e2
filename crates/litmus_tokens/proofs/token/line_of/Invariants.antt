use Rattle.std.proofs.Common.{◌≡◌, ◌==◌, count_by, take}
use Rattle.litmus_tokens.proofs.token.line_of.Given as goal

abbrev pub invariant-loop-byte : goal.invariant-loop-byte
invariant-loop-byte l = l.ends ≡ count_by (λ b. b == 10) (take l.byte-index l.before)
