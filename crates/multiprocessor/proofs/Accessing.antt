-- A choice that makes an access commits at once where it acts as on the flat machine.
use Rattle.multiprocessor.proofs.Vocabulary.{◌≡◌, ◌≢◌, ℕ, zero, suc, List, [], ◌∷◌, Option, None, Some, slice_get, refl, Litmus, action_of}
use Rattle.multiprocessor.proofs.Vocabulary.{CoreState, State, Effect, stored, effect_by, step_of, effect_of, core_of, program_of, NoAccess}
use Rattle.multiprocessor.proofs.Vocabulary.{store_access, locked_access, access_by, step_access, drain_access, access_of, Reg, Loc, Instr}
use Rattle.multiprocessor.proofs.Vocabulary.{Action, Store, Load, Lock, Entry, Choice, Step, Drain, Committed, drain_with, locked_with}

pub record CommitsAtOnce (f : Effect) : Type 0 where
  pub outcome : f.outcome ≡ Committed
  pub some : f.commits ≢ []

stored-commits : (depth : ℕ) (s : CoreState) (e : Entry) (loc : Loc) → store_access depth loc ≢ NoAccess → CommitsAtOnce (stored depth s e)
stored-commits zero s e loc h = record { outcome = refl; some = λ z. (let w : ⊥ = cc in w) }
stored-commits (suc n) s e loc h = absurd (h refl)

locked-commits : (core : ℕ) (s : CoreState) (loc : Loc) (reg : Option Reg) (word value : ℕ) (pending : List Entry) → locked_access loc pending ≢ NoAccess
    → CommitsAtOnce (locked_with core s loc reg word value pending)
locked-commits core s loc reg word value [] h = record { outcome = refl; some = λ z. (let w : ⊥ = cc in w) }
locked-commits core s loc reg word value (p ∷ ps) h = absurd (h refl)

action-commits : (depth : ℕ) (memory : List ℕ) (core : ℕ) (a : Action) (s : CoreState)
    → access_by depth a s.pending ≢ NoAccess
    → CommitsAtOnce (effect_by depth memory core a s)
action-commits depth memory core (Store loc operand) s h = stored-commits depth s _ loc h
action-commits depth memory core (Load reg loc) s h = record { outcome = refl; some = λ z. (let w : ⊥ = cc in w) }
action-commits depth memory core (Lock loc reg update) s h = locked-commits core s loc reg _ _ s.pending h
action-commits depth memory core _ s h = absurd (h refl)

step-commits : (depth : ℕ) (memory : List ℕ) (core : ℕ) (o : Option Instr) (s : CoreState)
    → step_access depth o s.pending ≢ NoAccess
    → CommitsAtOnce (step_of depth memory core o s)
step-commits depth memory core None s h = absurd (h refl)
step-commits depth memory core (Some instr) s h = action-commits depth memory core (action_of instr) s h

drain-commits : (s : CoreState) (pending : List Entry) → drain_access pending ≢ NoAccess → CommitsAtOnce (drain_with s pending)
drain-commits s [] h = absurd (h refl)
drain-commits s (p ∷ ps) h = record { outcome = refl; some = λ z. (let w : ⊥ = cc in w) }

pub commits-at-once : (t : Litmus) (depth : ℕ) (state : State) (choice : Choice)
    → access_of t depth state choice ≢ NoAccess
    → CommitsAtOnce (effect_of t depth state choice)
commits-at-once t depth state (Step core) h =
    step-commits depth state.memory core.0 (slice_get (program_of t core.0) (core_of state core.0).place) (core_of state core.0) h
commits-at-once t depth state (Drain core) h = drain-commits (core_of state core.0) (core_of state core.0).pending h
