-- What runs on either bus leave, and where they stop: an order, once each locked instruction's parts are put together, and
-- its final state.
use Rattle.std.specs.Prelude.{ℕ, ◌+◌, ◌≡◌, true, if◌then◌else◌, List, [], ◌∷◌, ◌++◌, length, take}
use Rattle.tso_terms.specs.Litmus.{Litmus}
use Rattle.tso_terms.specs.ProgramOrder.{same_kind}
use Rattle.tso_terms.specs.FlatMachine.{Effect, start}
use Rattle.tso_terms.specs.Runs.{run, CoresExist}
use Rattle.tso_terms.specs.SplitMachine.{Holder, Free, HeldBy, HeldBetween, Attempt}
use Rattle.tso_terms.specs.EitherBus.{BusState, BusRun, unheld, run_on, effect_on, after_on, choices_in}
use Rattle.tso_terms.specs.Together.{put_together}
use Rattle.basic_laws.specs.Types.{Bus, Entry, LR, Choice, Stall, Outcome, Asked, Stalled}
use Rattle.tso_terms.specs.declared.choice.Stall.TheVariants as stall

-- the choices end the test
abbrev pub EndOn : Bus → Litmus → ℕ → List Attempt → Type 0
EndOn bus t depth attempts = (run_on bus t depth attempts).run.ended ≡ true

-- the state that a run leaves
abbrev pub left_by : BusRun → BusState
left_by r = record { flat = r.run.state; holder = r.holder }

-- the load part that waits for its store part, if one does
abbrev pub waiting : Holder → List Entry
waiting Free = []
waiting (HeldBy choice) = []
waiting (HeldBetween e) = e ∷ []

-- ---- the choices that the flat machine doesn't make

-- 1 for a choice that asks for the bus
abbrev pub ask_count : Outcome → ℕ
ask_count Asked = 1
ask_count _ = 0

abbrev pub bus_stall : Stall → ℕ
bus_stall stall.Bus = 1
bus_stall _ = 0

-- 1 for a choice that stalls since another action holds the bus
abbrev pub wait_count : Outcome → ℕ
wait_count (Stalled why) = bus_stall why
wait_count _ = 0

-- 1 for the load part of a locked instruction alone
abbrev pub load_part_count : List Entry → ℕ
load_part_count (e ∷ []) = if same_kind e.kind LR then 1 else 0
load_part_count _ = 0

-- 1 for a choice that is made for the bus alone: it asks for it or waits for it, or commits a load part and keeps it
abbrev pub bus_count : Effect → ℕ
bus_count f = ask_count f.outcome + (wait_count f.outcome + load_part_count f.commits)

-- how many of these choices are made for the bus alone
abbrev pub made_for_bus : Bus → Litmus → ℕ → BusState → List Attempt → ℕ
made_for_bus bus t depth state [] = 0
made_for_bus bus t depth state (a ∷ rest) =
    bus_count (effect_on bus t depth state a).effect + made_for_bus bus t depth (after_on bus t depth state a) rest

-- how many of them wait for it
abbrev pub wait_for_bus : Bus → Litmus → ℕ → BusState → List Attempt → ℕ
wait_for_bus bus t depth state [] = 0
wait_for_bus bus t depth state (a ∷ rest) =
    wait_count (effect_on bus t depth state a).effect.outcome + wait_for_bus bus t depth (after_on bus t depth state a) rest

-- a run of the flat machine comes to the same places, registers, pending stores and memory, and commits the same with the
-- parts of each locked instruction put together, but for a load part that waits; it has ended where this one has. It uses and
-- stalls the choices that this one does, but for those that were made for the bus alone, leaves none over, and names no core
-- that isn't there unless this one does.
pub record IsFlatRun (bus : Bus) (t : Litmus) (depth : ℕ) (attempts : List Attempt) (r : BusRun) : Type 0 where
  pub choices : List Choice
  pub cores : CoresExist (length t.programs) (choices_in attempts) → CoresExist (length t.programs) choices
  pub ended : (run t depth choices).ended ≡ r.run.ended
  pub state : (run t depth choices).state ≡ r.run.state
  pub commits : (run t depth choices).commits ++ waiting r.holder ≡ put_together r.run.commits
  pub used : (run t depth choices).used + made_for_bus bus t depth (unheld (start t)) (take r.run.used attempts) ≡ r.run.used
  pub stalled : (run t depth choices).stalled + wait_for_bus bus t depth (unheld (start t)) (take r.run.used attempts) ≡ r.run.stalled
  pub unused : (run t depth choices).unused ≡ 0
