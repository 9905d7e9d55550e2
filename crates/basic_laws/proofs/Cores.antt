-- The cores of a state: how each begins, and when all are done.
use Rattle.std.proofs.Common.{◌≡◌, ◌<◌, ◌≤◌, ℕ, ◌+◌, zero, suc, List, [], ◌∷◌, length, slice_index_or, true, arith, ap, refl, inl, inr}
use Rattle.std.proofs.lemmas.List.{get_or_past}
use Rattle.tso_terms.specs.Litmus.{Litmus}
use Rattle.tso_terms.specs.FlatMachine.{CoreState, State, idle, started, program_of, core_of}
use Rattle.tso_terms.specs.Runs.{is_done, all_done, has_ended}
use Rattle.tso_terms.specs.declared.instruction.Instr.{Instr}
use Rattle.basic_laws.proofs.Basics.{and-left, and-right, lt-or}

pub starts-idle : (c : ℕ) (ps : List (List Instr)) (registers : List (List ℕ)) (k : ℕ)
    → (slice_index_or (started c ps registers) k idle).place ≡ 0
    × (slice_index_or (started c ps registers) k idle).pending ≡ []
starts-idle c [] registers k = (refl, refl)
starts-idle c (p ∷ ps) registers zero = (refl, refl)
starts-idle c (p ∷ ps) registers (suc k) = starts-idle (c + 1) ps registers k

pub length-starts : (c : ℕ) (ps : List (List Instr)) (registers : List (List ℕ)) → length (started c ps registers) ≡ length ps
length-starts c [] registers = refl
length-starts c (p ∷ ps) registers = ap suc (length-starts (c + 1) ps registers)

pub all-done : (ps : List (List Instr)) (ss : List CoreState)
    → ((k : ℕ) → k < length ss → is_done (slice_index_or ps k []) (slice_index_or ss k idle) ≡ true)
    → all_done ps ss ≡ true
all-done ps [] f = refl
all-done [] (s ∷ ss) f = rw (f 0 (omega arith)) (all-done [] ss (λ k l. f (suc k) (omega arith)))
all-done (p ∷ ps) (s ∷ ss) f = rw (f 0 (omega arith)) (all-done ps ss (λ k l. f (suc k) (omega arith)))

pub done-at : (ps : List (List Instr)) (ss : List CoreState) (k : ℕ)
    → all_done ps ss ≡ true
    → k < length ss
    → is_done (slice_index_or ps k []) (slice_index_or ss k idle) ≡ true
done-at ps [] k h l = absurd (omega arith)
done-at [] (s ∷ ss) zero h l = and-left (is_done [] s) (all_done [] ss) h
done-at [] (s ∷ ss) (suc k) h l = done-at [] ss k (and-right (is_done [] s) (all_done [] ss) h) (omega arith)
done-at (p ∷ ps) (s ∷ ss) zero h l = and-left (is_done p s) (all_done ps ss) h
done-at (p ∷ ps) (s ∷ ss) (suc k) h l = done-at ps ss k (and-right (is_done p s) (all_done ps ss) h) (omega arith)

-- where there is no core

pub no-program : (ps : List (List Instr)) (k : ℕ) → length ps ≤ k → slice_index_or ps k [] ≡ []
no-program ps k l = get_or_past ps k [] l

pub no-core : (ss : List CoreState) (k : ℕ) → length ss ≤ k → slice_index_or ss k idle ≡ idle
no-core ss k l = get_or_past ss k idle l

-- where the test has ended, each core is done, and so is one that isn't there
pub done-anywhere : (t : Litmus) (state : State) (k : ℕ)
    → length state.cores ≡ length t.programs
    → has_ended t state ≡ true
    → is_done (program_of t k) (core_of state k) ≡ true
done-anywhere t state k n h = elim (lt-or (length state.cores) k) [
  | inl l ↦ done-at t.programs state.cores k h l
  | inr l ↦ rw (no-program t.programs k (omega arith), no-core state.cores k l) refl
]
