-- The caches of a run, without their words, and what the choices have to do with them: they go along by the bus's own
-- definitions of an access that is made whole, and of its two halves on a split bus. (Primer, chapters 2, 6 and 7; which
-- copies are sent to memory is this project's profile.)
use Rattle.std.specs.Prelude.{ℕ, ◌/◌, Bool, true, false, if◌then◌else◌, List, [], ◌∷◌, Option, None}
use Rattle.std.specs.List.{list_any}
use Rattle.multiprocessor.specs.Vocabulary.{access_of, after_on, Attempt, awaited_of, BusEffect, BusModel, BusState, chosen, contents_of}
use Rattle.multiprocessor.specs.Vocabulary.{core_of, effect_on, Free, Geometry, HeldBetween, HeldBy, Holder, Litmus, Locks, MemoryAccess}
use Rattle.multiprocessor.specs.Vocabulary.{NoAccess, Reads, State, table_of_rows, TableColumns, Writes, writes_to}
use Rattle.basic_laws.specs.Types.{Loc, Entry, Kind, R, W, F, LR, LW, Choice}
use Rattle.snoop_bus.specs.CacheContents.{Accessed}
use Rattle.cache_set.specs.CacheTags.{TagSets}
use Rattle.snoop_bus.specs.Asks.{Awaited, AskedAccess, hits, request_for, asking, completed, whole_access}
use Rattle.multiprocessor.specs.declared.accesses.CacheUse.{CacheUse}
use Rattle.multiprocessor.specs.declared.accesses.CacheUse.TheVariants.{Unused, Forwarded, Asked, Through}
use Rattle.tso_terms.specs.declared.choice.Bus as kind

-- the caches without their words: the protocol's table row by row, their shape, the lines and states in them, and what an
-- action that holds the bus awaits
pub record Caches : Type 0 where
  pub rows : TableColumns
  pub shape : Geometry
  pub contents : List TagSets
  pub awaited : Option Awaited

abbrev pub caches_of : BusModel → Caches
caches_of b = record { rows = b.rows; shape = b.shape; contents = contents_of b; awaited = awaited_of b }

-- what a choice has to do with the caches, and the caches after it
pub record Used : Type 0 where
  pub how : CacheUse
  pub caches : Caches

abbrev pub not_through : CacheUse → Caches → Used
not_through how c = record { how = how; caches = c }

-- an access with these contents after it, and what is awaited then
abbrev pub through : Caches → Option Awaited → Accessed → Used
through c awaited a =
    record { how = Through a.report; caches = record { rows = c.rows; shape = c.shape; contents = a.caches; awaited = awaited } }

-- a core's access at a location that is made whole, a load or a write access
abbrev pub whole_by : Caches → ℕ → ℕ → Bool → Used
whole_by c core loc write = through c c.awaited (whole_access (table_of_rows c.rows) write core (loc / c.shape.words) c.contents)

-- whether such an access is a hit
abbrev pub would_hit : Caches → ℕ → ℕ → Bool → Bool
would_hit c core loc write = hits (table_of_rows c.rows) core (loc / c.shape.words) write c.contents

-- what is so of an access at a location, a read or a write access, and what where there is none
abbrev pub at_access : {A : Type 0} → A → (Loc → Bool → A) → MemoryAccess → A
at_access none at NoAccess = none
at_access none at (Reads loc) = at loc false
at_access none at (Writes loc) = at loc true
at_access none at (Locks loc) = at loc true

-- the first half of such an access on a split bus: the other caches see what is asked for, and that is awaited; it is no
-- access yet. A write access that hits asks for nothing
abbrev pub asked_with : Caches → AskedAccess → Caches
asked_with c a = record { rows = c.rows; shape = c.shape; contents = a.caches; awaited = a.awaited }

abbrev pub ask_by : Caches → ℕ → ℕ → Bool → Used
ask_by c core loc write =
    let asked = asking (table_of_rows c.rows) (request_for write) core (loc / c.shape.words) c.contents in
    not_through (Asked asked.request) (asked_with c asked)

-- of an action that may make no access
abbrev pub asking_by : Caches → ℕ → MemoryAccess → Used
asking_by c core what = at_access (not_through Unused c) (λ loc write. ask_by c core loc.0 write) what

-- the second half: what was awaited comes, and the access is made
abbrev pub completion_by : Caches → ℕ → ℕ → Used
completion_by c core loc = through c None (completed (table_of_rows c.rows) core (loc / c.shape.words) c.awaited c.contents)

abbrev pub completing_by : Caches → ℕ → MemoryAccess → Used
completing_by c core what = at_access (not_through Unused c) (λ loc write. completion_by c core loc.0) what

-- a load is answered by the core's own pending stores where one of them is to its location
abbrev pub load_after : Caches → List Entry → ℕ → ℕ → Used
load_after c pending core loc = if list_any (writes_to loc) pending then not_through Forwarded c else whole_by c core loc false

abbrev pub use_by_kind : Caches → List Entry → Entry → Kind → Used
use_by_kind c pending e R = load_after c pending e.core.0 e.loc.0
use_by_kind c pending e W = whole_by c e.core.0 e.loc.0 true
use_by_kind c pending e F = not_through Unused c
use_by_kind c pending e LR = whole_by c e.core.0 e.loc.0 true
use_by_kind c pending e LW = not_through Unused c

-- what is committed at one choice goes through the cache of its core: a load that none of the core's pending stores
-- answers, a drained store, and a locked instruction, whose load part is the one write access for both parts
abbrev pub use_of : Caches → List Entry → List Entry → Used
use_of c pending [] = not_through Unused c
use_of c pending (e ∷ es) = use_by_kind c pending e e.kind

-- whether a core's access is a hit
abbrev pub hits_by : Caches → ℕ → MemoryAccess → Bool
hits_by c core access = at_access false (λ loc write. would_hit c core loc.0 write) access

-- a choice in this state, with the caches' answer whether its access hits
abbrev pub attempt_of : Litmus → ℕ → State → Caches → Choice → Attempt
attempt_of t depth state c choice = record { choice = choice; hits = hits_by c (chosen choice) (access_of t depth state choice) }

-- an action has asked for the bus, and its access isn't made yet
abbrev pub is_awaited : Holder → Bool
is_awaited Free = false
is_awaited (HeldBy choice) = true
is_awaited (HeldBetween e) = false

-- what a core's choice with this access and these commits has to do with the caches, by whether an access was awaited
-- before it and whether one is awaited after it: where the waiting begins the access is asked for, where it ends the access
-- is completed, and all else that is committed is one whole access
abbrev pub used_between : Bool → Bool → Caches → ℕ → MemoryAccess → List Entry → List Entry → Used
used_between false true c core what pending commits = asking_by c core what
used_between true false c core what pending commits = completing_by c core what
used_between false false c core what pending commits = use_of c pending commits
used_between true true c core what pending commits = use_of c pending commits

-- what a choice with this effect has to do with the caches
abbrev pub use_with : Litmus → ℕ → BusState → Choice → BusEffect → Caches → Used
use_with t depth state choice f c =
    used_between (is_awaited state.holder) (is_awaited f.holder) c (chosen choice) (access_of t depth state.flat choice)
    (core_of state.flat (chosen choice)).pending f.effect.commits

-- what a choice has to do with the caches on this bus
abbrev pub use_on : kind.Bus → Litmus → ℕ → BusState → Choice → Caches → Used
use_on bus t depth state choice c =
    use_with t depth state choice (effect_on bus t depth state (attempt_of t depth state.flat c choice)) c

-- the state after a choice with these caches
abbrev pub state_after_on : kind.Bus → Litmus → ℕ → BusState → Caches → Choice → BusState
state_after_on bus t depth state c choice = after_on bus t depth state (attempt_of t depth state.flat c choice)
