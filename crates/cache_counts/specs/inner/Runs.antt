-- What a contract sees of what the code has counted.
use Rattle.std.specs.Prelude.{ℕ, ◌≡◌, ◌+◌, All}
use Rattle.cache_counts.specs.declared.runs.CountedRuns.{CountedRuns}
use Rattle.cache_counts.specs.inner.Bounds.{IsSumOf}

-- so many runs are counted, and each sum is one of as many words as runs ended
pub record HasFewRuns (runs : ℕ) (k : CountedRuns) : Type 0 where
  pub number : k.ended + k.unfinished ≡ runs
  pub sums : All (IsSumOf k.ended) k.spreads.items
