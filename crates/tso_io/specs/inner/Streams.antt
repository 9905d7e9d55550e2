-- What the writing of an answer adds to the count of failed calls: one where it failed, and nothing else.
use Rattle.std.specs.Prelude.{ℕ, ◌+◌, ◌≡◌, Result, MatchResult}
use Rattle.counted_io.specs.declared.streams.RunFault.{RunFault}
use Rattle.counted_io.specs.declared.streams.RunFault.TheVariants.{Device}

-- each fault is the device's, and one call of the writer failed then, and none else
abbrev pub CountsWriteFaults : {A : Type 0} → Result A RunFault → ℕ → ℕ → Type 0
CountsWriteFaults result old new = MatchResult result (λ _. new ≡ old) (λ e. (e ≡ Device) × (new ≡ old + 1))
