-- What is known of who holds the bus: its action still has its access to make, and a locked instruction's word is still
-- memory's.
use Rattle.std.specs.Prelude.{ℕ, ◌≡◌, ◌≢◌, slice_index}
use Rattle.tso_terms.specs.Litmus.{Litmus}
use Rattle.tso_terms.specs.FlatMachine.{State, core_of}
use Rattle.tso_terms.specs.MemoryAccess.{NoAccess, Locks, access_of}
use Rattle.tso_terms.specs.SplitMachine.{Holder, Free, HeldBy, HeldBetween}
use Rattle.basic_laws.specs.Types.{Bus, Atomic, Split, Entry, LR, Step}

-- the locked instruction with this load part has read and not yet written: its core is where it stood, its step still
-- makes that access, and memory still has the word that was read
pub record HasRead (t : Litmus) (depth : ℕ) (state : State) (e : Entry) : Type 0 where
  pub kind : e.kind ≡ LR
  pub place : (core_of state e.core.0).place ≡ e.place
  pub access : access_of t depth state (Step e.core) ≡ Locks e.loc
  pub word : slice_index state.memory e.loc.0 ≡ e.value

-- an action that has asked still has its access to make; on the atomic bus nobody holds the bus
abbrev pub HolderFits : Bus → Litmus → ℕ → State → Holder → Type 0
HolderFits bus t depth state Free = Unit {0}
HolderFits Atomic t depth state (HeldBy choice) = ⊥
HolderFits Atomic t depth state (HeldBetween e) = ⊥
HolderFits Split t depth state (HeldBy choice) = access_of t depth state choice ≢ NoAccess
HolderFits Split t depth state (HeldBetween e) = HasRead t depth state e
