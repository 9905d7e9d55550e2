-- Refusals at places. A place is how many bytes of the text stand from there on.
use Rattle.std.specs.Prelude.{ℕ}
use Rattle.litmus_tokens.specs.declared.fault.Why.{Why}
use Rattle.litmus_tokens.specs.declared.fault.Fault.{Fault}

-- a refusal, at the place from which so many bytes of the text stand
abbrev pub fault : Why → ℕ → Fault
fault why remaining = record { why = why; remaining = remaining }
