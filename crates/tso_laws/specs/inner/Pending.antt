-- What is pending at a core: plain stores of its own, and nothing else.
use Rattle.std.specs.Prelude.{ℕ, ◌≡◌, Some, slice_get}
use Rattle.tso_terms.specs.FlatMachine.{State, core_of}
use Rattle.basic_laws.specs.Types.{Entry, W}

-- a plain store of this core
pub record IsStoreOf (core : ℕ) (e : Entry) : Type 0 where
  pub kind : e.kind ≡ W
  pub mine : e.core.0 ≡ core

-- all that is pending at a core are plain stores of its own
abbrev pub PendingIsOwn : State → Type 0
PendingIsOwn state = (core place : ℕ) (e : Entry) → slice_get (core_of state core).pending place ≡ Some e → IsStoreOf core e
