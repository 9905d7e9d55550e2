-- What a choice asks the caches for, and what is counted of it: the statistics count accesses that were made, each once.
use Rattle.std.specs.Prelude.{ℕ, ◌≡◌, ◌↔◌, ◌⊎◌, true, false, List}
use Rattle.tso_terms.specs.Litmus.{Litmus}
use Rattle.tso_terms.specs.FlatMachine.{State, chosen, core_of, effect_of}
use Rattle.tso_terms.specs.MemoryAccess.{MemoryAccess, NoAccess, Reads, Writes, Locks, access_of}
use Rattle.tso_terms.specs.EitherBus.{BusState}
use Rattle.tso_terms.specs.declared.choice.Bus as kind
use Rattle.basic_laws.specs.Types.{Entry, Choice}
use Rattle.tso_laws.specs.BusChoices.{IsPossibleOn}
use Rattle.snoop_bus.specs.declared.access.AccessKind.TheVariants.{Hit}
use Rattle.multiprocessor.specs.declared.accesses.CacheUse.{CacheUse}
use Rattle.multiprocessor.specs.declared.accesses.CacheUse.TheVariants.{Unused, Forwarded, Asked, Through}
use Rattle.multiprocessor.specs.Caches.{Caches, Used, not_through, whole_by, use_of, hits_by}

-- a core's use of the caches is this access: no use, or a load that its own pending stores answer, where there is none; else one
-- access at the location that is made whole, a load or a write access
abbrev pub IsUseFor : Caches → ℕ → MemoryAccess → Used → Type 0
IsUseFor c core NoAccess u = (u ≡ not_through Unused c) ⊎ (u ≡ not_through Forwarded c)
IsUseFor c core (Reads loc) u = u ≡ whole_by c core loc.0 false
IsUseFor c core (Writes loc) u = u ≡ whole_by c core loc.0 true
IsUseFor c core (Locks loc) u = u ≡ whole_by c core loc.0 true

-- a use that is a hit
abbrev pub IsHitUse : CacheUse → Type 0
IsHitUse Unused = ⊥
IsHitUse Forwarded = ⊥
IsHitUse (Asked request) = ⊥
IsHitUse (Through r) = r.access.kind ≡ Hit

-- what the flat machine's choice, which commits this, has to do with the caches
abbrev pub use_at : Litmus → ℕ → State → Caches → Choice → Used
use_at t depth state c choice = use_of c (core_of state (chosen choice)).pending (effect_of t depth state choice).commits

-- in each state that choices lead to on either bus: a choice's use of the caches is its access, and it is a hit exactly where
-- the caches answer so
pub record AccessesAreWhatIsCounted : Type 0 where
  pub uses : (bus : kind.Bus) (t : Litmus) (depth : ℕ) (commits : List Entry) (state : BusState) (c : Caches) (choice : Choice)
      → IsPossibleOn bus t depth commits state
      → IsUseFor c (chosen choice) (access_of t depth state.flat choice) (use_at t depth state.flat c choice)
  pub answers : (bus : kind.Bus) (t : Litmus) (depth : ℕ) (commits : List Entry) (state : BusState) (c : Caches) (choice : Choice)
      → IsPossibleOn bus t depth commits state
      → IsHitUse (use_at t depth state.flat c choice).how ↔ (hits_by c (chosen choice) (access_of t depth state.flat choice) ≡ true)
