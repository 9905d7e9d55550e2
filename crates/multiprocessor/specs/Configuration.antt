-- What a contract sees of a machine's configuration. The depth of the store buffers decides which orders are in reach; on
-- the atomic bus the shape of the caches has a part in the statistics alone. (This project's profile.)
use Rattle.std.specs.Prelude.{ℕ, ◌≤◌}
use Rattle.multiprocessor.specs.Vocabulary.{Geometry, most_depth}
use Rattle.tso_terms.specs.declared.choice.Bus.{Bus}
use Rattle.cache_set.specs.Geometry as shape

-- how many stores each core's buffer holds (0: no core has a buffer), the shape of each core's cache, and the kind of bus
-- that the caches share
pub record Configuration : Type 0 where
  pub depth : ℕ
  pub shape : Geometry
  pub bus : Bus

-- the depth and the shape of the caches are within their limits
abbrev pub IsConfigurationWithinLimits : Configuration → Type 0
IsConfigurationWithinLimits c = (c.depth ≤ most_depth) × shape.IsShapeWithinLimits c.shape
