-- The split machine: the flat machine with a bus that one action at a time holds, from the choice by which it asks to
-- the choice that completes it. (Primer, chapter 7, the split-transaction bus; what asks, what waits and what acts at
-- once are this project's profile.)
use Rattle.std.specs.Prelude.{ℕ, ◌==◌, Bool, true, false, not, if◌then◌else◌, [], ◌∷◌, drop, slice_index, slice_set}
use Rattle.tso_terms.specs.Litmus.{Litmus}
use Rattle.tso_terms.specs.Thread.{entry}
use Rattle.tso_terms.specs.FlatMachine.{CoreState, State, Effect, stalled, core_of, chosen, effect_of}
use Rattle.tso_terms.specs.MemoryAccess.{MemoryAccess, NoAccess, Reads, Writes, Locks, access_of}
use Rattle.tso_terms.specs.declared.instruction.Loc.{Loc}
use Rattle.tso_terms.specs.declared.execution.Entry.{Entry}
use Rattle.tso_terms.specs.declared.execution.Kind.TheVariants.{LR}
use Rattle.tso_terms.specs.declared.choice.Choice.{Choice}
use Rattle.tso_terms.specs.declared.choice.Choice.TheVariants.{Step, Drain}
use Rattle.tso_terms.specs.declared.choice.Stall.TheVariants as stall
use Rattle.tso_terms.specs.declared.choice.Outcome.TheVariants.{Committed, Asked}

-- who holds the bus: nobody; an action that has asked for it, until its next choice completes it; or a locked
-- instruction between its two parts, of which this is the load part
pub data Holder : Type 0 where
  Free : Holder
  HeldBy : Choice → Holder
  HeldBetween : Entry → Holder

-- a choice, and whether the access that it makes, if it makes one, hits. The caches give that answer; the machine takes
-- whichever it is.
pub record Attempt : Type 0 where
  pub choice : Choice
  pub hits : Bool

-- what a choice does to the flat machine, and who holds the bus afterwards
pub record BusEffect : Type 0 where
  pub effect : Effect
  pub holder : Holder

abbrev pub same_choice : Choice → Choice → Bool
same_choice (Step a) (Step b) = a.0 == b.0
same_choice (Drain a) (Drain b) = a.0 == b.0
same_choice (Step a) (Drain b) = false
same_choice (Drain a) (Step b) = false

-- an access that needs the bus: a read or a write that doesn't hit, and a locked instruction's
abbrev pub needs_bus : MemoryAccess → Bool → Bool
needs_bus NoAccess hits = false
needs_bus (Reads loc) hits = not hits
needs_bus (Writes loc) hits = not hits
needs_bus (Locks loc) hits = true

-- what acts as on the flat machine, and leaves the bus to this holder
abbrev pub acts : Effect → Holder → BusEffect
acts f holder = record { effect = f; holder = holder }

-- an action asks for the bus where it is free, and waits where another one holds it
abbrev pub asks : CoreState → Choice → Holder → BusEffect
asks s choice Free = acts (record { outcome = Asked; after = s; commits = [] }) (HeldBy choice)
asks s choice (HeldBy other) = acts (stalled stall.Bus s) (HeldBy other)
asks s choice (HeldBetween e) = acts (stalled stall.Bus s) (HeldBetween e)

-- a choice that isn't the holder's next one: what needs the bus asks for it; all else acts as on the flat machine, also
-- while another action holds the bus
abbrev pub begins : Litmus → ℕ → State → Attempt → Holder → BusEffect
begins t depth state a holder =
    if needs_bus (access_of t depth state a.choice) a.hits
    then asks (core_of state (chosen a.choice)) a.choice holder
    else acts (effect_of t depth state a.choice) holder

-- the load part of the locked instruction that a core is at, with the word of memory
abbrev pub load_part : State → ℕ → Loc → Entry
load_part state core loc = entry core (core_of state core).place LR loc (slice_index state.memory loc.0)

-- a locked instruction commits its load part, and keeps the bus; nothing else changes
abbrev pub reads_first : CoreState → Entry → BusEffect
reads_first s e = acts (record { outcome = Committed; after = s; commits = e ∷ [] }) (HeldBetween e)

-- an action that has asked, with this access, acts as on the flat machine and frees the bus; but of a locked instruction
-- only the load part is committed
abbrev pub completes : Litmus → ℕ → State → Choice → MemoryAccess → BusEffect
completes t depth state choice NoAccess = acts (effect_of t depth state choice) Free
completes t depth state choice (Reads loc) = acts (effect_of t depth state choice) Free
completes t depth state choice (Writes loc) = acts (effect_of t depth state choice) Free
completes t depth state choice (Locks loc) = reads_first (core_of state (chosen choice)) (load_part state (chosen choice) loc)

-- the state, with the word that this load part read
abbrev pub as_read : State → Entry → State
as_read state e = record { memory = slice_set state.memory e.loc.0 e.value; cores = state.cores }

-- an effect whose first entry is committed already
abbrev pub after_first : Effect → Effect
after_first f = record { outcome = f.outcome; after = f.after; commits = drop 1 f.commits }

-- a locked instruction with this load part acts as on the flat machine, on the word that it read, and frees the bus; of its
-- two entries only the store part is left to commit
abbrev pub writes_last : Litmus → ℕ → State → Entry → BusEffect
writes_last t depth state e = acts (after_first (effect_of t depth (as_read state e) (Step e.core))) Free

-- what a choice does while the bus is held so
abbrev pub split_effect : Litmus → ℕ → State → Attempt → Holder → BusEffect
split_effect t depth state a Free = begins t depth state a Free
split_effect t depth state a (HeldBy choice) =
    if same_choice choice a.choice
    then completes t depth state choice (access_of t depth state choice)
    else begins t depth state a (HeldBy choice)
split_effect t depth state a (HeldBetween e) =
    if same_choice (Step e.core) a.choice then writes_last t depth state e else begins t depth state a (HeldBetween e)
