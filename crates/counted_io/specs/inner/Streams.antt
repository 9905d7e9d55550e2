-- What a call adds to the counts of failed calls: one where it failed, and nothing else. The count stops at its maximum,
-- and never wraps.
use Rattle.std.specs.Prelude.{ℕ, ◌+◌, ◌-◌, ◌^◌, ◌≡◌, ◌==◌, ◌&&◌, nat_lt, min, if◌then◌else◌, List, length, Result, MatchResult, is_ok}
use Rattle.counted_io.specs.declared.streams.RunFault.{RunFault}
use Rattle.counted_io.specs.declared.streams.RunFault.TheVariants.{Device, NoMemory}

-- the count after one more failure
abbrev pub raised : ℕ → ℕ
raised n = min (n + 1) (2 ^ 32 - 1)

-- a call that answered an error raised the count
abbrev pub counts_error : {A E : Type 0} → Result A E → ℕ → ℕ
counts_error result n = (if is_ok result then n else raised n)

-- a write of these bytes that answered an error, or took none of some, raised the count
abbrev pub CountsWrite : {E : Type 0} → Result ℕ E → List ℕ → ℕ → ℕ → Type 0
CountsWrite result bytes old new =
    MatchResult result (λ n. new ≡ (if ((n == 0) && nat_lt 0 (length bytes)) then raised old else old)) (λ _. new ≡ raised old)

-- one call of the reader failed where the fault is the device's, and none else
abbrev pub CountsReadFaults : {A : Type 0} → Result A RunFault → ℕ → ℕ → Type 0
CountsReadFaults result old new =
    MatchResult result (λ _. new ≡ old) (λ e. (e ≡ Device → new ≡ old + 1) × (e ≡ NoMemory → new ≡ old))
