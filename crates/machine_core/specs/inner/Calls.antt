-- The calls of a bus that change it, as their contracts have them.
use Rattle.std.specs.Prelude.{ℕ, ◌≡◌, Bool, true, false, Option, Some, None}
use Rattle.basic_laws.specs.Types.{Core, Loc}
use Rattle.snoop_bus.specs.declared.access.AccessReport.{AccessReport}
use Rattle.snoop_bus.specs.declared.access.BusRequest.{BusRequest}
use Rattle.snoop_bus.specs.declared.holding.Stage.{Stage}
use Rattle.snoop_bus.specs.Bus.{BusModel, IsFree, holder_of}
use Rattle.snoop_bus.specs.Held.{holder}
use Rattle.snoop_bus.specs.Accesses.{memory_of, would_hit, awaited_of, LoadsAt, WritesAt, AsksFor, CompletesAt}
use Rattle.snoop_bus.specs.inner.Accesses.{MayGoOn}

-- a call made one bus of another: a load or a write access, an ask, a completion, or a call that leaves memory as it is, as the
-- write of a locked instruction that has read
pub data IsCalled (old new : BusModel) : Type 0 where
  loads : (core loc word : ℕ) (report : AccessReport) → MayGoOn old core loc false → LoadsAt old new core loc word report → IsCalled old new
  writes : (core loc word : ℕ) (report : AccessReport) → MayGoOn old core loc true → WritesAt old new core loc word report → IsCalled old new
  asks : (core : Core) (loc : Loc) (write : Bool) (request : Option BusRequest) → IsFree old → (write ≡ false → would_hit old core.0 loc.0 false ≡ false)
      → AsksFor old new core loc write request → IsCalled old new
  completes : (core : Core) (loc : Loc) (stage : Stage) (report : AccessReport) → holder_of old ≡ Some (holder core loc stage) → awaited_of new ≡ None
      → CompletesAt old new core.0 loc.0 report → IsCalled old new
  keeps : memory_of new ≡ memory_of old → IsCalled old new
