-- How a core's access comes to the bus: whole, or as the second half of what the core has asked for.
use Rattle.std.specs.Prelude.{◌≡◌}
use Rattle.multiprocessor.specs.Vocabulary.{BusModel, holder_of, Locks, MemoryAccess, NoAccess, Reads, Writes}
use Rattle.tso_terms.specs.declared.instruction.Core.{Core}
use Rattle.multiprocessor.specs.declared.turn.Way.{Way}
use Rattle.multiprocessor.specs.declared.turn.Way.TheVariants.{Whole, Asked}
use Rattle.multiprocessor.specs.declared.turn.Turn.{Turn}
use Rattle.multiprocessor.specs.Keeping.{held_for}

-- what is so of a whole access, and of one that was asked for
abbrev pub by_way : {A : Type 0} → Way → A → A → A
by_way Whole whole asked = whole
by_way Asked whole asked = asked

-- a turn of this core in which an access is whole
abbrev pub whole : Core → Turn
whole core = record { core = core; way = Whole }

-- the bus is held for this access of the core, which is a load's or a store's
abbrev pub HasAsked : BusModel → Core → MemoryAccess → Type 0
HasAsked b core NoAccess = ⊥
HasAsked b core (Reads loc) = holder_of b ≡ held_for core (Reads loc)
HasAsked b core (Writes loc) = holder_of b ≡ held_for core (Writes loc)
HasAsked b core (Locks loc) = ⊥
