-- The stores that a core has pending, in its buffer. No buffer counts as one of depth 0 in which nothing is pending, so
-- that one definition of a core serves both.
use Rattle.std.specs.Prelude.{◌<◌, [], Option, None, Some}
use Rattle.multiprocessor.specs.Vocabulary.{Stores, stores}

-- what a buffer holds, and its depth; where there is no buffer nothing is ever pending, and the depth is 0
abbrev pub pending_stores : Option Stores → Stores
pending_stores None = stores [] 0
pending_stores (Some s) = s

-- a buffer has room for a store
abbrev pub HasRoom : Option Stores → Type 0
HasRoom None = Unit {0}
HasRoom (Some s) = 0 < s.depth
