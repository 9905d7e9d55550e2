-- The machine on either bus, and its runs. On the atomic bus each choice is made whole, as on the flat machine; so whoever
-- is above has one machine to speak of, and one law for both buses.
use Rattle.std.specs.Prelude.{ℕ, ◌≡◌, ◌≢◌, Bool, true, if◌then◌else◌, List, [], ◌∷◌, length, map}
use Rattle.tso_terms.specs.Litmus.{Litmus}
use Rattle.tso_terms.specs.FlatMachine.{State, chosen, effect_of, applied, start}
use Rattle.tso_terms.specs.Runs.{Run, has_ended, resting, then_run}
use Rattle.tso_terms.specs.MemoryAccess.{Writes, access_of}
use Rattle.tso_terms.specs.SplitMachine.{Holder, Free, HeldBy, HeldBetween, Attempt, BusEffect, acts, split_effect}
use Rattle.tso_terms.specs.declared.choice.Bus.{Bus}
use Rattle.tso_terms.specs.declared.choice.Bus.TheVariants.{Atomic, Split}
use Rattle.tso_terms.specs.declared.instruction.Loc.{Loc}
use Rattle.tso_terms.specs.declared.choice.Choice.{Choice}

-- the flat machine's state, and who holds the bus
pub record BusState : Type 0 where
  pub flat : State
  pub holder : Holder

-- a state in which nobody holds the bus
abbrev pub unheld : State → BusState
unheld state = record { flat = state; holder = Free }

-- what a choice does
abbrev pub effect_on : Bus → Litmus → ℕ → BusState → Attempt → BusEffect
effect_on Atomic t depth state a = acts (effect_of t depth state.flat a.choice) state.holder
effect_on Split t depth state a = split_effect t depth state.flat a state.holder

-- the state after a choice
abbrev pub after_on : Bus → Litmus → ℕ → BusState → Attempt → BusState
after_on bus t depth state a = record {
  flat = applied state.flat (chosen a.choice) (effect_on bus t depth state a).effect;
  holder = (effect_on bus t depth state a).holder;
}

-- a run, and who holds the bus after it
pub record BusRun : Type 0 where
  pub run : Run
  pub holder : Holder

-- a run that makes no more choices
abbrev pub resting_on : Bool → BusState → ℕ → BusRun
resting_on ended state unused = record { run = resting ended state.flat unused; holder = state.holder }

-- an effect, and then this run
abbrev pub then_on : BusEffect → BusRun → BusRun
then_on f r = record { run = then_run f.effect r.run; holder = r.holder }

-- the run from a state on, up to the first moment at which the test has ended
abbrev pub run_on_from : Bus → Litmus → ℕ → BusState → List Attempt → BusRun
run_on_from bus t depth state [] = resting_on (has_ended t state.flat) state 0
run_on_from bus t depth state (a ∷ rest) =
    if has_ended t state.flat
    then resting_on true state (length (a ∷ rest))
    else then_on (effect_on bus t depth state a) (run_on_from bus t depth (after_on bus t depth state a) rest)

-- the run of a test on this bus, at this depth of the store buffers
abbrev pub run_on : Bus → Litmus → ℕ → List Attempt → BusRun
run_on bus t depth attempts = run_on_from bus t depth (unheld (start t)) attempts

-- the choices without the answers
abbrev pub choices_in : List Attempt → List Choice
choices_in attempts = map (λ a. a.choice) attempts

-- an answer that the caches may give while the bus is held so: between the two parts of a locked instruction no write of
-- another core to its location hits. (Coherence gives it: the holder's copy is in M, and is alone.)
abbrev pub HitFits : Litmus → ℕ → State → Attempt → Holder → Type 0
HitFits t depth state a Free = Unit {0}
HitFits t depth state a (HeldBy choice) = Unit {0}
HitFits t depth state a (HeldBetween e) =
    (loc : Loc) → access_of t depth state a.choice ≡ Writes loc → a.hits ≡ true → chosen a.choice ≢ e.core.0 → loc.0 ≢ e.loc.0

-- all answers along the choices are such
abbrev pub HitsFit : Bus → Litmus → ℕ → BusState → List Attempt → Type 0
HitsFit bus t depth state [] = Unit {0}
HitsFit bus t depth state (a ∷ rest) =
    HitFits t depth state.flat a state.holder × HitsFit bus t depth (after_on bus t depth state a) rest
