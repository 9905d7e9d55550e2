-- The final states that are collected from the packed states of a search, as far as it has come: each once, with what it was
-- made of.
use Rattle.std.specs.Prelude.{ℕ, ◌≡◌, ◌<◌, true, Bool, List, Some, length, map, slice_get}
use Rattle.tso_terms.specs.Litmus.{Litmus}
use Rattle.tso_terms.specs.FlatMachine.{State, start, registers_in}
use Rattle.tso_terms.specs.Runs.{has_ended}
use Rattle.tso_laws.specs.Closed.{ArePartlyClosed}
use Rattle.tso_laws.specs.Dead.{forgotten}
use Rattle.explorer.specs.inner.Packed.{state_of_packed}
use Rattle.explorer.specs.Settled.{LeadsBy}
use Rattle.explorer.specs.inner.Settled.{Grows}
use Rattle.explorer.specs.inner.Arranged.{AreExchanged}
use Rattle.explorer.specs.FinalStates.{Have, AreDistinct}
use Rattle.explorer.specs.declared.packed.Packed.{Packed}
use Rattle.explorer.specs.declared.final_states.FinalState.{FinalState}

-- the final state is what its choices lead to, and once dead registers are forgotten that is this state
pub record IsFinalOf (depth : ℕ) (t : Litmus) (hidden : List (List Bool)) (kept : State) (f : FinalState) : Type 0 where
  pub last : State
  pub leads : LeadsBy depth t (start t) f.choices.items last
  pub kept_is : forgotten t hidden last ≡ kept
  pub registers_are : registers_in last ≡ f.registers.items
  pub memory_is : last.memory ≡ f.memory.items

-- a final state that was made of one of the first so many states: one that has ended
pub record IsMadeOf (depth : ℕ) (t : Litmus) (hidden : List (List Bool)) (states : List Packed) (count : ℕ) (f : FinalState) : Type 0 where
  pub at : ℕ
  pub kept : Packed
  pub within : at < count
  pub stands : slice_get states at ≡ Some kept
  pub ended : has_ended t (state_of_packed kept) ≡ true
  pub made : IsFinalOf depth t hidden (state_of_packed kept) f

-- those of the first so many states that have ended, each once
pub record AreFinalsOf (depth : ℕ) (t : Litmus) (hidden : List (List Bool)) (states : List Packed) (count : ℕ) (finals : List FinalState) : Type 0 where
  pub each : (i : ℕ) (f : FinalState) → slice_get finals i ≡ Some f → IsMadeOf depth t hidden states count f
  pub all : (i : ℕ) (s : Packed) → i < count → slice_get states i ≡ Some s → has_ended t (state_of_packed s) ≡ true
      → Have hidden finals (registers_in (state_of_packed s)) (state_of_packed s).memory
  pub once : AreDistinct hidden finals

-- the states miss no end of a run: they grew from closed ones, and have what exchanges make of those that have ended
pub record MissesNoEnd (depth : ℕ) (t : Litmus) (hidden : List (List Bool)) (pairs : List (ℕ × ℕ)) (states : List Packed) : Type 0 where
  pub earlier : List Packed
  pub closed : ArePartlyClosed depth t hidden pairs (map state_of_packed earlier)
  pub grows : Grows earlier states
  pub exchanged : AreExchanged t pairs states (length states)
