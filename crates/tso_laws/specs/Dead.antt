-- Dead registers: those that no instruction still to come reads before one writes them, and that nobody looks at when the
-- test has ended. What they hold changes nothing that is looked at, so states that differ in them alone may be taken for one.
-- (The equations are those of live-variable analysis in compilers.)
use Rattle.std.specs.Prelude.{Option, Some, None, ℕ, ◌+◌, ◌≡◌, Bool, true, false, if◌then◌else◌, List, [], ◌∷◌, slice_set, slice_index_or, drop}
use Rattle.tso_terms.specs.Registers.{index_of}
use Rattle.tso_terms.specs.Actions.{action_of}
use Rattle.tso_terms.specs.Litmus.{Litmus}
use Rattle.tso_terms.specs.FlatMachine.{CoreState, State, program_of, effect_of, after_choice, registers_in}
use Rattle.tso_terms.specs.Runs.{has_ended}
use Rattle.basic_laws.specs.Types.{Reg, Eax, Instr, Operand, Number, Held, Update, Replace, Negate, CompareExchange, Change, Keep, Set, Swap, Action, Choice}
use Rattle.tso_terms.specs.declared.action.Update.TheVariants.{Combine}
use Rattle.tso_terms.specs.declared.action.Action.TheVariants.{Store, Load, Move, Fence, Lock}

-- ---- which registers are dead

-- a register that the operand reads isn't dead
abbrev pub unless_read : Operand → List Bool → List Bool
unless_read (Number value) dead = dead
unless_read (Held reg) dead = slice_set dead (index_of reg) false

-- a register that the update reads, beside the word that it changes, isn't dead
abbrev pub unless_used : Update → List Bool → List Bool
unless_used (Replace operand) dead = unless_read operand dead
unless_used (Combine operator operand) dead = unless_read operand dead
unless_used Negate dead = dead
unless_used (CompareExchange reg) dead = unless_read (Held Eax) (unless_read (Held reg) dead)

-- the word that it changes is of no account to it
abbrev pub replaces : Update → Bool
replaces (Replace operand) = true
replaces _ = false

-- which registers are dead before a move, where these are dead after it
abbrev pub before_change : Change → List Bool → List Bool
before_change Keep dead = dead
before_change (Set reg update) dead = unless_used update (slice_set dead (index_of reg) (replaces update))
before_change (Swap reg other) dead = unless_read (Held other) (unless_read (Held reg) dead)

-- the register that gets the word that a locked instruction reads, if there is one, is dead before
abbrev pub before_taking : Option Reg → List Bool → List Bool
before_taking None dead = dead
before_taking (Some reg) dead = slice_set dead (index_of reg) true

-- which registers are dead before an action, where these are dead after it: one that it writes is, one that it reads isn't
abbrev pub dead_before : Action → List Bool → List Bool
dead_before (Store loc operand) dead = unless_read operand dead
dead_before (Load reg loc) dead = slice_set dead (index_of reg) true
dead_before (Move change) dead = before_change change dead
dead_before Fence dead = dead
dead_before (Lock loc target update) dead = unless_used update (before_taking target dead)

-- which registers are dead where these instructions are still to come, and these are hidden at the end: nobody looks at them
abbrev pub dead_at : List Instr → List Bool → List Bool
dead_at [] hidden = hidden
dead_at (i ∷ rest) hidden = dead_before (action_of i) (dead_at rest hidden)

-- ---- states without what is dead

-- the registers with 0 in those that are dead; where the list says nothing of a register it isn't
abbrev pub cleared : List Bool → List ℕ → List ℕ
cleared [] registers = registers
cleared (d ∷ dead) [] = []
cleared (d ∷ dead) (r ∷ registers) = (if d then 0 else r) ∷ cleared dead registers

-- none of six registers
abbrev pub none_hidden : List Bool
none_hidden = false ∷ (false ∷ (false ∷ (false ∷ (false ∷ (false ∷ [])))))

-- the hidden registers of a core; of a core of which nothing is said none is hidden
abbrev pub hidden_of : List (List Bool) → ℕ → List Bool
hidden_of hidden core = slice_index_or hidden core none_hidden

-- a core with 0 in its dead registers
abbrev pub forgotten_core : List Instr → List Bool → CoreState → CoreState
forgotten_core program hidden s =
    record { place = s.place; registers = cleared (dead_at (drop s.place program) hidden) s.registers; pending = s.pending }

-- the cores from this number on
abbrev pub forgotten_cores : Litmus → List (List Bool) → ℕ → List CoreState → List CoreState
forgotten_cores t hidden core [] = []
forgotten_cores t hidden core (s ∷ ss) =
    forgotten_core (program_of t core) (hidden_of hidden core) s ∷ forgotten_cores t hidden (core + 1) ss

-- a state with 0 in all dead registers
abbrev pub forgotten : Litmus → List (List Bool) → State → State
forgotten t hidden state = record { memory = state.memory; cores = forgotten_cores t hidden 0 state.cores }

-- two states that differ in dead registers alone
abbrev pub AreAlike : Litmus → List (List Bool) → State → State → Type 0
AreAlike t hidden state other = forgotten t hidden state ≡ forgotten t hidden other

-- ---- what is seen of the registers of all cores

-- those of the cores from this number on
abbrev pub seen_from : List (List Bool) → ℕ → List (List ℕ) → List (List ℕ)
seen_from hidden core [] = []
seen_from hidden core (r ∷ registers) = cleared (hidden_of hidden core) r ∷ seen_from hidden (core + 1) registers

-- the registers of each core with 0 in those that are hidden
abbrev pub seen : List (List Bool) → List (List ℕ) → List (List ℕ)
seen hidden registers = seen_from hidden 0 registers

-- ---- the law

-- what dead registers hold changes nothing: in states that differ in them alone each choice has the same outcome, and the
-- states after it differ in dead registers alone again; the test has ended in both or in none; and where it has, the registers
-- that are dead are those that are hidden; where none is hidden all is seen
pub record DeadRegistersChangeNothing : Type 0 where
  pub outcome : (t : Litmus) (depth : ℕ) (hidden : List (List Bool)) (state other : State) (choice : Choice)
      → AreAlike t hidden state other → (effect_of t depth state choice).outcome ≡ (effect_of t depth other choice).outcome
  pub after : (t : Litmus) (depth : ℕ) (hidden : List (List Bool)) (state other : State) (choice : Choice)
      → AreAlike t hidden state other → AreAlike t hidden (after_choice t depth state choice) (after_choice t depth other choice)
  pub ended : (t : Litmus) (hidden : List (List Bool)) (state other : State)
      → AreAlike t hidden state other → has_ended t state ≡ has_ended t other
  pub at_the_end : (t : Litmus) (hidden : List (List Bool)) (state : State)
      → has_ended t state ≡ true → registers_in (forgotten t hidden state) ≡ seen hidden (registers_in state)
  pub nothing_hidden : (registers : List (List ℕ)) → seen [] registers ≡ registers
  pub twice : (t : Litmus) (hidden : List (List Bool)) (state : State) → AreAlike t hidden (forgotten t hidden state) state
