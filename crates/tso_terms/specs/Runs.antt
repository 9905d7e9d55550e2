-- Runs of the flat machine under a list of choices, up to the first moment at which the test has ended. Choices after that
-- moment have no part in the run, and are told as unused.
use Rattle.std.specs.Prelude.{ℕ, ◌+◌, ◌<◌, ◌==◌, ◌&&◌, Bool, true, if◌then◌else◌, List, [], ◌∷◌, ◌++◌, length, suc}
use Rattle.tso_terms.specs.Litmus.{Litmus}
use Rattle.tso_terms.specs.FlatMachine.{CoreState, State, Effect, is_none_pending, effect_of, after_choice, start, chosen}
use Rattle.tso_terms.specs.declared.instruction.Instr.{Instr}
use Rattle.tso_terms.specs.declared.execution.Entry.{Entry}
use Rattle.tso_terms.specs.declared.choice.Choice.{Choice}
use Rattle.tso_terms.specs.declared.choice.Outcome.{Outcome}
use Rattle.tso_terms.specs.declared.choice.Outcome.TheVariants.{Committed, Buffered, Moved, Asked, Stalled}

-- a core is done: at the end of its program, with nothing pending
abbrev pub is_done : List Instr → CoreState → Bool
is_done program s = (length program == s.place) && is_none_pending s.pending

abbrev pub all_done : List (List Instr) → List CoreState → Bool
all_done programs [] = true
all_done [] (s ∷ ss) = is_done [] s && all_done [] ss
all_done (p ∷ ps) (s ∷ ss) = is_done p s && all_done ps ss

-- the test has ended: every core is done
abbrev pub has_ended : Litmus → State → Bool
has_ended t state = all_done t.programs state.cores

-- a run: whether it ended, its last state, its commits in their order, and how many choices were used (the stalled
-- ones too), how many of these stalled, and how many stood after the end
pub record Run : Type 0 where
  pub ended : Bool
  pub state : State
  pub commits : List Entry
  pub used : ℕ
  pub stalled : ℕ
  pub unused : ℕ

abbrev pub stall_count : Outcome → ℕ
stall_count Committed = 0
stall_count Buffered = 0
stall_count Moved = 0
stall_count Asked = 0
stall_count (Stalled why) = 1

-- a run that makes no more choices
abbrev pub resting : Bool → State → ℕ → Run
resting ended state unused = record { ended = ended; state = state; commits = []; used = 0; stalled = 0; unused = unused }

-- an effect, and then this run
abbrev pub then_run : Effect → Run → Run
then_run f r = record {
  ended = r.ended;
  state = r.state;
  commits = f.commits ++ r.commits;
  used = suc r.used;
  stalled = stall_count f.outcome + r.stalled;
  unused = r.unused;
}

-- the run from a state on
abbrev pub run_from : Litmus → ℕ → State → List Choice → Run
run_from t depth state [] = resting (has_ended t state) state 0
run_from t depth state (c ∷ cs) =
    if has_ended t state
    then resting true state (length (c ∷ cs))
    else then_run (effect_of t depth state c) (run_from t depth (after_choice t depth state c) cs)

-- the run of a test at this depth of the store buffers
abbrev pub run : Litmus → ℕ → List Choice → Run
run t depth choices = run_from t depth (start t) choices

-- each choice's core is one of so many
abbrev pub CoresExist : ℕ → List Choice → Type 0
CoresExist cores [] = Unit {0}
CoresExist cores (c ∷ cs) = (chosen c < cores) × CoresExist cores cs
