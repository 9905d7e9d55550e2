-- The line of a locked instruction that has read and not yet written: each access of another core waits for the bus.
use Rattle.std.specs.Prelude.{ℕ, ◌≡◌, ◌≢◌}
use Rattle.tso_terms.specs.FlatMachine.{chosen}
use Rattle.tso_terms.specs.MemoryAccess.{MemoryAccess, NoAccess, Reads, Writes, Locks, access_of}
use Rattle.tso_terms.specs.SplitMachine.{HeldBetween}
use Rattle.basic_laws.specs.Types.{Split, Choice, Stalled, Entry}
use Rattle.tso_terms.specs.declared.choice.Stall.TheVariants.{Bus}
use Rattle.multiprocessor.specs.Caches.{Caches}
use Rattle.machine_core.specs.Running.{Running, machine_effect}
use Rattle.promises.specs.Locked.{ShareLine}

-- an access, a read or a write, to the line of this location
abbrev pub IsAtLine : Caches → ℕ → MemoryAccess → Type 0
IsAtLine c loc NoAccess = ⊥
IsAtLine c loc (Reads at) = ShareLine c at.0 loc
IsAtLine c loc (Writes at) = ShareLine c at.0 loc
IsAtLine c loc (Locks at) = ShareLine c at.0 loc

-- while a locked instruction has read and not yet written, each choice of another core that makes such an access stalls
abbrev pub OthersWaitForTheLine : Running → Type 0
OthersWaitForTheLine m =
    (e : Entry) (choice : Choice) → m.bus ≡ Split → m.state.holder ≡ HeldBetween e → chosen choice ≢ e.core.0
    → IsAtLine m.statistics.caches e.loc.0 (access_of m.test m.depth m.state.flat choice)
    → (machine_effect m choice).effect.outcome ≡ Stalled Bus
