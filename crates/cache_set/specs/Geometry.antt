-- The shape of the caches: how many sets each has, for how many lines a set has room, and how many words a line has. It
-- decides which line gives way, and which locations share one; coherence holds for every shape. (Primer, chapter 2.)
use Rattle.std.specs.Prelude.{◌≡◌, ◌≤◌, ◌⊎◌, ℕ}
use Rattle.cache_set.specs.Limits.{most_sets, most_ways}

pub record Geometry : Type 0 where
  pub sets : ℕ
  pub ways : ℕ
  pub words : ℕ

abbrev pub geometry : ℕ → ℕ → ℕ → Geometry
geometry sets ways words = record { sets = sets; ways = ways; words = words }

-- how many words a line may have: one, two or four
abbrev pub IsLineSize : ℕ → Type 0
IsLineSize words = (words ≡ 1) ⊎ (words ≡ 2) ⊎ (words ≡ 4)

-- at least one set and one way, at most as many as there may be, and a line of one of the sizes that there are
pub record IsShapeWithinLimits (g : Geometry) : Type 0 where
  pub some_set : 1 ≤ g.sets
  pub few_sets : g.sets ≤ most_sets
  pub some_way : 1 ≤ g.ways
  pub few_ways : g.ways ≤ most_ways
  pub line_size : IsLineSize g.words
