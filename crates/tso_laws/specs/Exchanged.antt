-- Cores that are alike: the same program, the same first registers, and the same registers that nobody looks at. Two of them exchanged,
-- in a state and in a choice, do the same with each other's names. So of states that differ by such exchanges a search may keep one.
-- (Model checkers know this as symmetry reduction.)
use Rattle.std.specs.Prelude.{ℕ, ◌<◌, ◌≡◌, ◌==◌, Bool, if◌then◌else◌, List, [], ◌∷◌, length, map, swap, Some, slice_get, slice_index_or}
use Rattle.tso_terms.specs.Litmus.{Litmus}
use Rattle.tso_terms.specs.FlatMachine.{CoreState, State, program_of, effect_of, after_choice, start, step, drain}
use Rattle.tso_terms.specs.Runs.{has_ended}
use Rattle.basic_laws.specs.Types.{Entry, Choice, Step, Drain}
use Rattle.tso_laws.specs.Dead.{hidden_of, forgotten}

-- two cores of the test that are alike
pub record CoresAreAlike (t : Litmus) (hidden : List (List Bool)) (pair : ℕ × ℕ) : Type 0 where
  pub first : pair.0 < length t.programs
  pub second : pair.1 < length t.programs
  pub programs : program_of t pair.0 ≡ program_of t pair.1
  pub registers : slice_index_or t.registers pair.0 [] ≡ slice_index_or t.registers pair.1 []
  pub hidden_too : hidden_of hidden pair.0 ≡ hidden_of hidden pair.1

-- ---- two cores exchanged

-- a core's number where these two are exchanged
abbrev pub exchanged_core : ℕ × ℕ → ℕ → ℕ
exchanged_core pair core = if core == pair.0 then pair.1 else (if core == pair.1 then pair.0 else core)

abbrev pub exchanged_choice : ℕ × ℕ → Choice → Choice
exchanged_choice pair (Step core) = step (exchanged_core pair core.0)
exchanged_choice pair (Drain core) = drain (exchanged_core pair core.0)

abbrev pub exchanged_entry : ℕ × ℕ → Entry → Entry
exchanged_entry pair e =
    record { core = record { 0 = exchanged_core pair e.core.0 }; place = e.place; kind = e.kind; loc = e.loc; value = e.value }

-- what a core has, with the names of the two exchanged
abbrev pub renamed : ℕ × ℕ → CoreState → CoreState
renamed pair s = record { place = s.place; registers = s.registers; pending = map (exchanged_entry pair) s.pending }

-- each of the two with what the other one had
abbrev pub exchanged : ℕ × ℕ → State → State
exchanged pair state = record { memory = state.memory; cores = swap (map (renamed pair) state.cores) pair.0 pair.1 }

-- these exchanges, one after the other
abbrev pub exchanged_by : List (ℕ × ℕ) → State → State
exchanged_by [] state = state
exchanged_by (pair ∷ pairs) state = exchanged_by pairs (exchanged pair state)

-- ---- pairs

abbrev pub IsOneOf : List (ℕ × ℕ) → ℕ × ℕ → Type 0
IsOneOf pairs pair = (i : ℕ) × (slice_get pairs i ≡ Some pair)

-- each of these is one of the pairs
abbrev pub AreOf : List (ℕ × ℕ) → List (ℕ × ℕ) → Type 0
AreOf pairs [] = Unit {0}
AreOf pairs (e ∷ es) = IsOneOf pairs e × AreOf pairs es

-- each pair is of two cores that are alike
abbrev pub AreAllAlike : Litmus → List (List Bool) → List (ℕ × ℕ) → Type 0
AreAllAlike t hidden pairs = (pair : ℕ × ℕ) → IsOneOf pairs pair → CoresAreAlike t hidden pair

-- ---- the law

-- where two cores are alike, exchanging them changes the first state not at all; in other states each choice, with the two exchanged
-- in it too, has the same outcome, and the state after it is that with the two exchanged; the test has ended in both or in none;
-- dead registers are forgotten as before; and a second exchange undoes the first
pub record IsExchangeable (t : Litmus) (hidden : List (List Bool)) (pair : ℕ × ℕ) : Type 0 where
  pub first : exchanged pair (start t) ≡ start t
  pub outcome : (depth : ℕ) (state : State) (choice : Choice) → length state.cores ≡ length t.programs
      → (effect_of t depth (exchanged pair state) (exchanged_choice pair choice)).outcome ≡ (effect_of t depth state choice).outcome
  pub after : (depth : ℕ) (state : State) (choice : Choice) → length state.cores ≡ length t.programs
      → after_choice t depth (exchanged pair state) (exchanged_choice pair choice) ≡ exchanged pair (after_choice t depth state choice)
  pub ended : (state : State) → length state.cores ≡ length t.programs → has_ended t (exchanged pair state) ≡ has_ended t state
  pub dead : (state : State) → length state.cores ≡ length t.programs
      → forgotten t hidden (exchanged pair state) ≡ exchanged pair (forgotten t hidden state)
  pub twice : (state : State) → length state.cores ≡ length t.programs → exchanged pair (exchanged pair state) ≡ state

abbrev pub AlikeCoresAreExchangeable : Type 0
AlikeCoresAreExchangeable = (t : Litmus) (hidden : List (List Bool)) (pair : ℕ × ℕ) → CoresAreAlike t hidden pair → IsExchangeable t hidden pair
