-- Why counting never overflows: a choice moves no more than so much, and a run has no more choices than a text may spell.
use Rattle.std.specs.Prelude.{ℕ, ◌≤◌, ◌*◌, ◌^◌}
use Rattle.cache_counts.specs.declared.spread.Spread.{Spread}
use Rattle.cache_counts.specs.declared.traffic.Traffic.{Traffic}

-- none of these counts is larger
pub record IsTrafficAtMost (most : ℕ) (x : Traffic) : Type 0 where
  pub get_s : x.get_s ≤ most
  pub get_m : x.get_m ≤ most
  pub invalidations : x.invalidations ≤ most
  pub from_caches : x.from_caches ≤ most
  pub from_memory : x.from_memory ≤ most
  pub to_memory : x.to_memory ≤ most

-- the sum of as many words at most
abbrev pub IsSumOf : ℕ → Spread → Type 0
IsSumOf runs s = s.sum ≤ runs * 2 ^ 32
