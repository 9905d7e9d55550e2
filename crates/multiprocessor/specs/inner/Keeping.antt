-- What a machine keeps from choice to choice, for counting: no count is larger than the number of instructions that have
-- made their accesses. So no counter can overflow.
use Rattle.std.specs.Prelude.{ℕ, ◌≡◌, ◌<◌, ◌≤◌, ◌+◌, ◌-◌, ◌*◌, List, length, All, Option, None, Some}
use Rattle.std.specs.List.{sum_by}
use Rattle.multiprocessor.specs.Vocabulary.{Awaited, BusState, CoreState, Free, HeldBetween, HeldBy, Holder, IsTest, Litmus, Locks}
use Rattle.multiprocessor.specs.Vocabulary.{MemoryAccess, most_cores, most_instructions, NoAccess, Reads, Writes}
use Rattle.tso_terms.specs.declared.instruction.Core.{Core}
use Rattle.multiprocessor.specs.declared.accesses.CacheUse.{CacheUse}
use Rattle.multiprocessor.specs.declared.accesses.CacheUse.TheVariants.{Unused, Forwarded, Asked, Through}
use Rattle.multiprocessor.specs.declared.accesses.MemoryAccess as code
use Rattle.multiprocessor.specs.declared.accesses.MemoryAccess.TheVariants.{Nothing, Read, Write, Lock}
use Rattle.multiprocessor.specs.declared.counts.Counts.{Counts}
use Rattle.multiprocessor.specs.Statistics.{Statistics, with_use_counted}
use Rattle.multiprocessor.specs.Keeping.{IsAtMost}

-- how many of a core's instructions it is done with: those that it has issued and that wait in no buffer
abbrev pub done_by : CoreState → ℕ
done_by s = s.place - length s.pending

-- a core has issued what waits in its buffer, and no more instructions than a program may have
pub record HasIssuedItsStores (s : CoreState) : Type 0 where
  pub place : s.place ≤ most_instructions
  pub pending : length s.pending ≤ s.place

-- as many instructions as all cores may have, and one more for a locked instruction between its two parts
abbrev pub most_counted : ℕ
most_counted = most_cores * most_instructions + 1

-- a locked instruction between its two parts has made its access already
abbrev pub half_done : Holder → ℕ
half_done Free = 0
half_done (HeldBy choice) = 0
half_done (HeldBetween e) = 1

-- how many instructions have made their accesses, if they make any
abbrev pub done_in : BusState → ℕ
done_in state = sum_by done_by state.flat.cores + half_done state.holder

-- the core whose copy was sent to memory, if there was one, is one of so many
abbrev pub IsAmong : ℕ → Option Core → Type 0
IsAmong cores None = Unit {0}
IsAmong cores (Some core) = core.0 < cores

abbrev pub IsFlusherAmong : ℕ → CacheUse → Type 0
IsFlusherAmong cores Unused = Unit {0}
IsFlusherAmong cores Forwarded = Unit {0}
IsFlusherAmong cores (Asked request) = Unit {0}
IsFlusherAmong cores (Through r) = IsAmong cores r.access.flushed

-- a use of which nothing is counted
abbrev pub IsUncounted : CacheUse → Type 0
IsUncounted how = (core : ℕ) (cs : List Counts) → with_use_counted core how cs ≡ cs

-- what an action that holds the bus awaits was sent by one of so many cores
abbrev pub IsSenderAmong : ℕ → Option Awaited → Type 0
IsSenderAmong cores None = Unit {0}
IsSenderAmong cores (Some awaited) = IsAmong cores awaited.flushed

-- counts for each core, and none is larger than the number of instructions that have made their accesses
pub record IsTallied (t : Litmus) (state : BusState) (s : Statistics) : Type 0 where
  pub test : IsTest t
  pub cores : length s.counts ≡ length t.programs
  pub issued : All HasIssuedItsStores state.flat.cores
  pub done : All (IsAtMost (done_in state)) s.counts
  pub sender : IsSenderAmong (length t.programs) s.caches.awaited

abbrev pub memory_access_in : code.MemoryAccess → MemoryAccess
memory_access_in Nothing = NoAccess
memory_access_in (Read loc) = Reads loc
memory_access_in (Write loc) = Writes loc
memory_access_in (Lock loc) = Locks loc
