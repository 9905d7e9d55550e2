-- Choices that need not wait: no other choice that comes before them can change what they do, or be changed by them.
-- (This project's profile; the reduction is known of model checkers as a persistent set of one choice.)
use Rattle.std.specs.Prelude.{ℕ, ◌<◌, ◌≤◌, ◌≡◌, ◌≢◌, ◌==◌, ◌&&◌, Bool, true, false, List, [], ◌∷◌, length, Some, slice_get}
use Rattle.tso_terms.specs.Actions.{action_of}
use Rattle.tso_terms.specs.Litmus.{Litmus}
use Rattle.tso_terms.specs.FlatMachine.{CoreState, State, program_of, core_of, effect_of}
use Rattle.tso_terms.specs.Runs.{stall_count}
use Rattle.basic_laws.specs.Types.{Instr, Action, Entry, Choice, Step, Drain}
use Rattle.tso_terms.specs.declared.action.Action.TheVariants.{Store, Load, Move, Fence, Lock}

-- whether an action writes this location or, where loads count, loads it
abbrev pub meets : Bool → ℕ → Action → Bool
meets loads loc (Store l operand) = l.0 == loc
meets loads loc (Load reg l) = loads && (l.0 == loc)
meets loads loc (Move change) = false
meets loads loc Fence = false
meets loads loc (Lock l reg update) = l.0 == loc

-- what a core has still to do doesn't meet the location: none of the instructions from its place on, and no pending store
pub record Avoids (loads : Bool) (loc : ℕ) (program : List Instr) (s : CoreState) : Type 0 where
  pub coming : (i : ℕ) (x : Instr) → s.place ≤ i → slice_get program i ≡ Some x → meets loads loc (action_of x) ≡ false
  pub pending : (i : ℕ) (e : Entry) → slice_get s.pending i ≡ Some e → e.loc.0 ≢ loc

-- that is so of every other core
abbrev pub OthersAvoid : Bool → ℕ → Litmus → State → ℕ → Type 0
OthersAvoid loads loc t state core = (j : ℕ) → j ≢ core → Avoids loads loc (program_of t j) (core_of state j)

-- an action that can be made at once, and needs to wait for nothing that others do
abbrev pub IsEagerBy : ℕ → Litmus → State → ℕ → Action → Type 0
IsEagerBy depth t state core (Store loc operand) = length (core_of state core).pending < depth
IsEagerBy depth t state core (Load reg loc) = OthersAvoid false loc.0 t state core
IsEagerBy depth t state core (Move change) = Unit {0}
IsEagerBy depth t state core Fence = (core_of state core).pending ≡ []
IsEagerBy depth t state core (Lock loc reg update) = ((core_of state core).pending ≡ []) × OthersAvoid true loc.0 t state core

pub record IsEagerStep (depth : ℕ) (t : Litmus) (state : State) (core : ℕ) : Type 0 where
  pub next : Instr
  pub stands : slice_get (program_of t core) (core_of state core).place ≡ Some next
  pub eager : IsEagerBy depth t state core (action_of next)

-- the oldest pending store, of a location that no other core meets any more
pub record IsEagerDrain (depth : ℕ) (t : Litmus) (state : State) (core : ℕ) : Type 0 where
  pub oldest : Entry
  pub later : List Entry
  pub pending : (core_of state core).pending ≡ oldest ∷ later
  pub others : OthersAvoid true oldest.loc.0 t state core
  pub buffered : 0 < depth

abbrev pub IsEager : ℕ → Litmus → State → Choice → Type 0
IsEager depth t state (Step core) = IsEagerStep depth t state core.0
IsEager depth t state (Drain core) = IsEagerDrain depth t state core.0

-- an eager choice takes effect
abbrev pub EagerChoicesTakeEffect : Type 0
EagerChoicesTakeEffect =
    (depth : ℕ) (t : Litmus) (state : State) (choice : Choice)
    → IsEager depth t state choice → stall_count (effect_of t depth state choice).outcome ≡ 0
