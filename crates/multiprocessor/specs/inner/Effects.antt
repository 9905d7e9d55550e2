-- When a core's access may be made at once: where nobody holds the bus, or the access doesn't need it. An access that acted
-- while another is under way, without a hit, would find caches between two states.
use Rattle.std.specs.Prelude.{◌≡◌, ◌<◌, ℕ, ◌⊎◌, false, length}
use Rattle.multiprocessor.specs.Vocabulary.{BusModel, cores_of, IsFree, MemoryAccess, needs_bus, words_of}
use Rattle.basic_laws.specs.Types.{Core, Loc}
use Rattle.multiprocessor.specs.Caches.{caches_of, hits_by}
use Rattle.multiprocessor.specs.inner.Turns.{HasAsked}
use Rattle.multiprocessor.specs.declared.turn.Way.{Way}
use Rattle.multiprocessor.specs.declared.turn.Way.TheVariants.{Whole, Asked}
use Rattle.multiprocessor.specs.declared.turn.Turn.{Turn}

-- a core's access may be made at once: nobody holds the bus, or the access doesn't need it
abbrev pub MayAct : BusModel → ℕ → MemoryAccess → Type 0
MayAct b core access = IsFree b ⊎ (needs_bus access (hits_by (caches_of b) core access) ≡ false)

-- a core's access may be made this way
abbrev pub MayMakeBy : Way → BusModel → Core → MemoryAccess → Type 0
MayMakeBy Whole b core access = MayAct b core.0 access
MayMakeBy Asked b core access = HasAsked b core access

-- an access may be made in this turn
abbrev pub MayMake : Turn → BusModel → MemoryAccess → Type 0
MayMake turn b access = MayMakeBy turn.way b turn.core access

-- an access at this location may be made in this turn
pub record MayAccess (turn : Turn) (b : BusModel) (loc : Loc) (access : MemoryAccess) : Type 0 where
  pub core : turn.core.0 < cores_of b
  pub free : MayMake turn b access
  pub known : loc.0 < length (words_of b)
