-- What the search keeps from step to step: whatever a choice leads to from a state that was gone through is covered by a
-- state that is kept. Nothing else shows that no end is missed.
use Rattle.std.specs.Prelude.{ℕ, ◌≡◌, ◌≤◌, ◌++◌, Bool, true, List, [], length, map, Some, slice_get, ◌⊎◌, All, zero}
use Rattle.std.specs.Prelude.{suc}
use Rattle.tso_terms.specs.Litmus.{Litmus}
use Rattle.tso_terms.specs.FlatMachine.{State, start, after_choice, step, drain}
use Rattle.tso_terms.specs.declared.choice.Choice.{Choice}
use Rattle.tso_laws.specs.Closed.{IsCovered, LeadsEagerly}
use Rattle.tso_laws.specs.Stubborn.{ChoiceSet, has_step, has_drain}
use Rattle.tso_laws.specs.Dead.{forgotten}
use Rattle.tso_laws.specs.Exchanged.{exchanged_by, AreOf, AreAllAlike}
use Rattle.flat_machine.specs.State.{state_of_snapshot}
use Rattle.explorer.specs.inner.Packed.{state_of_packed, IsPacked}
use Rattle.flat_machine.specs.declared.snapshot.Snapshot.{Snapshot}
use Rattle.explorer.specs.declared.packed.Packed.{Packed}
use Rattle.explorer.specs.declared.link.Turn.{Turn}
use Rattle.explorer.specs.declared.link.Turn.TheVariants.{Made, Exchanged}
use Rattle.explorer.specs.declared.link.Link.{Link}
use Rattle.explorer.specs.declared.found.Found.{Found}
use Rattle.explorer.specs.declared.plan.Plan.{Plan}
use Rattle.explorer.specs.Settled.{LeadsBy, LeadsToForgotten}

-- no state was taken away, and those that are new came last
abbrev pub Grows : List Packed → List Packed → Type 0
Grows old new = (more : List Packed) × (new ≡ old ++ more)

-- a state with a core for each program, as it is packed
pub record IsKeptState (t : Litmus) (kept : Packed) : Type 0 where
  pub cores : length (state_of_packed kept).cores ≡ length t.programs
  pub packed : IsPacked kept

-- each is one
abbrev pub HaveCores : Litmus → List Packed → Type 0
HaveCores t states = All (IsKeptState t) states

-- the state of this number is the one that was unpacked
pub record IsCurrent (states : List Packed) (at : ℕ) (current : Snapshot) : Type 0 where
  pub kept : Packed
  pub stands : slice_get states at ≡ Some kept
  pub state_is : state_of_packed kept ≡ state_of_snapshot current

-- choices were appended that lead from the old state to the new one
pub record AreAppended (depth : ℕ) (t : Litmus) (old new : State) (before after : List Choice) : Type 0 where
  pub made : List Choice
  pub leads : LeadsBy depth t old made new
  pub appended : after ≡ before ++ made

-- choices lead to a state that is the kept one once its dead registers are forgotten and then cores that are alike exchanged
pub record LeadToExchanged (depth : ℕ) (t : Litmus) (hidden : List (List Bool)) (state : State) (choices : List Choice)
    (exchanges : List (ℕ × ℕ)) (kept : State) : Type 0 where
  pub last : State
  pub leads : LeadsBy depth t state choices last
  pub alike : AreAllAlike t hidden exchanges
  pub kept_is : exchanged_by exchanges (forgotten t hidden last) ≡ kept

-- they lead there from the beginning of the test where there is no state yet, and else from the state of this number
abbrev pub LeadOn : ℕ → Litmus → List (List Bool) → List Packed → ℕ → List Choice → List (ℕ × ℕ) → State → Type 0
LeadOn depth t hidden states from choices exchanges kept =
    ((states ≡ []) × LeadToExchanged depth t hidden (start t) choices exchanges kept)
    ⊎ ((s : Packed) × (slice_get states from ≡ Some s) × LeadToExchanged depth t hidden (state_of_packed s) choices exchanges kept)

-- so do the choices of these turns, with the exchanges after them
pub record LeadByTurns (depth : ℕ) (t : Litmus) (hidden : List (List Bool)) (state : State) (turns : List Turn) (kept : State) : Type 0 where
  pub choices : List Choice
  pub exchanges : List (ℕ × ℕ)
  pub turns_are : turns ≡ map Made choices ++ map Exchanged exchanges
  pub lead : LeadToExchanged depth t hidden state choices exchanges kept

-- choices lead from the one state to the kept one, a first one and eager ones after it, and then exchanges of these pairs
pub record IsReachedByChoice (depth : ℕ) (t : Litmus) (hidden : List (List Bool)) (pairs : List (ℕ × ℕ)) (state : State)
    (c : Choice) (choices : List Choice) (exchanges : List (ℕ × ℕ)) (kept : State) : Type 0 where
  pub leads : LeadToExchanged depth t hidden state choices exchanges kept
  pub last : State
  pub later : List Choice
  pub eager : LeadsEagerly depth t (after_choice t depth state c) later last
  pub of_pairs : AreOf pairs exchanges
  pub kept_is : exchanged_by exchanges (forgotten t hidden last) ≡ kept

-- the choice stalls in the state, or what it leads to is covered
abbrev pub IsVisited : ℕ → Litmus → List (List Bool) → List (ℕ × ℕ) → List Packed → State → Choice → Type 0
IsVisited depth t hidden pairs states state c =
    (after_choice t depth state c ≡ state) ⊎ IsCovered depth t hidden pairs (map state_of_packed states) (after_choice t depth state c)

-- those of a core's choices that are in the set
abbrev pub ArePicksVisited : ℕ → Litmus → List (List Bool) → List (ℕ × ℕ) → List Packed → State → ChoiceSet → ℕ → Type 0
ArePicksVisited depth t hidden pairs states state set core =
    (has_step set core ≡ true → IsVisited depth t hidden pairs states state (step core))
    × (has_drain set core ≡ true → IsVisited depth t hidden pairs states state (drain core))

-- a link's turns lead to its packed state: those of the first from the beginning of the test, those of each other from the
-- one that the link names, which comes before it
abbrev pub IsLinked : ℕ → Litmus → List (List Bool) → List Packed → ℕ → Packed → Link → Type 0
IsLinked depth t hidden states zero s link = LeadByTurns depth t hidden (start t) link.turns.items (state_of_packed s)
IsLinked depth t hidden states (suc i) s link =
    (r : Packed) × (link.from ≤ i) × (slice_get states link.from ≡ Some r)
    × LeadByTurns depth t hidden (state_of_packed r) link.turns.items (state_of_packed s)

-- each packed state has its link
pub record AreLinked (depth : ℕ) (t : Litmus) (hidden : List (List Bool)) (states : List Packed) (links : List Link) : Type 0 where
  pub count : length links ≡ length states
  pub each : (i : ℕ) (s : Packed) (link : Link)
      → slice_get states i ≡ Some s → slice_get links i ≡ Some link → IsLinked depth t hidden states i s link

-- these choices lead from the beginning to the packed state of this number, wherever the links are those of the states
abbrev pub IsPath : List Link → ℕ → List Choice → Type 0
IsPath links at choices =
    (depth : ℕ) (t : Litmus) (hidden : List (List Bool)) (states : List Packed) (s : Packed)
    → AreLinked depth t hidden states links → slice_get states at ≡ Some s → LeadsToForgotten depth t hidden (start t) choices (state_of_packed s)

-- each link but the first names a packed state before its own
abbrev pub GoBack : List Link → Type 0
GoBack links = (i : ℕ) (link : Link) → slice_get links (suc i) ≡ Some link → link.from ≤ i

-- what the search has found is in order: each state is as it was packed and has its link, and the states that are gone through
-- and reached have a core for each program
pub record IsInOrder (plan : Plan) (found : Found) : Type 0 where
  pub cores : HaveCores plan.test.now found.states.keys
  pub linked : AreLinked plan.depth plan.test.now plan.hidden.now found.states.keys found.links.items
  pub current : length found.current.cores.items ≡ length plan.test.now.programs
  pub room : length found.reached.state.cores.items ≡ length plan.test.now.programs

-- eager choices were appended that lead from the old state to the new one
pub record IsSettled (depth : ℕ) (t : Litmus) (old new : State) (before after : List Choice) : Type 0 where
  pub made : List Choice
  pub eager : LeadsEagerly depth t old made new
  pub leads : LeadsBy depth t old made new
  pub appended : after ≡ before ++ made
