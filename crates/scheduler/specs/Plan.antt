-- Which runs a sweep makes: one for each seed of a range, each with as many choices.
use Rattle.std.specs.Prelude.{ℕ, ◌<◌, ◌≤◌, ◌^◌}
use Rattle.scheduler.specs.Limits.{most_choices}

-- a run for each of so many seeds, from the first one on, under so many choices of the seed
pub record Plan : Type 0 where
  pub from : ℕ
  pub seeds : ℕ
  pub length : ℕ

-- maximum number of seeds of a sweep
abbrev pub most_seeds : ℕ
most_seeds = 1000

-- the first seed is a word, there is a seed, and there are no more seeds, and no more choices of each, than there may be
abbrev pub IsPlanWithinLimits : Plan → Type 0
IsPlanWithinLimits p = (p.from < 2 ^ 32) × (1 ≤ p.seeds) × (p.seeds ≤ most_seeds) × (p.length ≤ most_choices)
