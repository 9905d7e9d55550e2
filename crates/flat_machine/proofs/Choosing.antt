-- A choice in a snapshot is the choice in its state.
use Rattle.flat_machine.proofs.Vocabulary.{◌≡◌, ℕ, ◌<◌, ◌≤◌, zero, suc, List, [], ◌∷◌, length, map, Some, None, slice_get, slice_set}
use Rattle.flat_machine.proofs.Vocabulary.{slice_index_or, Result, Ok, Err, OnOk, refl, ap, sym, ◌∙◌, arith, true, false, ◌==◌}
use Rattle.flat_machine.proofs.Vocabulary.{slice_get-get_or, action_of, Litmus, CoreState, State, Effect, idle, program_of, core_of}
use Rattle.flat_machine.proofs.Vocabulary.{step_of, effect_by, drain_of, effect_of, memory_after, applied, after_choice, chosen, step}
use Rattle.flat_machine.proofs.Vocabulary.{drain, stalled, Instr, Action, Choice, Stall, Outcome, Committed, Buffered, Moved, Asked}
use Rattle.flat_machine.proofs.Vocabulary.{Stalled, stall_count, core_of_processor, state_of_snapshot, Processor, Snapshot}
use Rattle.tso_terms.specs.declared.choice.Stall.TheVariants as stall

pub on-ok : {A E : Type 0} {P Q : Type 0} (r : Result A E) → (P → Q) → OnOk r P → OnOk r Q
on-ok (Ok a) f h = f h
on-ok (Err e) f h = h

pub on-ok-2 : {A E : Type 0} {P Q R : Type 0} (r : Result A E) → (P → Q → R) → OnOk r P → OnOk r Q → OnOk r R
on-ok-2 (Ok a) f h k = f h k
on-ok-2 (Err e) f h k = h

pub map-at : (xs : List Processor) (k : ℕ) (p : Processor)
    → k < length xs
    → slice_index_or (map core_of_processor xs) k idle ≡ core_of_processor (slice_index_or xs k p)
map-at [] k p l = absurd (let z : ⊥ = omega (arith, l) in z)
map-at (x ∷ xs) zero p l = refl
map-at (x ∷ xs) (suc k) p l = map-at xs k p (omega (arith, l))

pub map-set : (xs : List Processor) (k : ℕ) (p : Processor)
    → map core_of_processor (slice_set xs k p) ≡ slice_set (map core_of_processor xs) k (core_of_processor p)
map-set [] k p = refl
map-set (x ∷ xs) zero p = refl
map-set (x ∷ xs) (suc k) p = ap (λ z. core_of_processor x ∷ z) (map-set xs k p)

module _ (t : Litmus) (d : ℕ) (s : Snapshot) (k : ℕ) (p : Processor) (present : k < length s.cores.items) (p-is : p ≡ slice_index_or s.cores.items k p) where
  pub core-at : core_of (state_of_snapshot s) k ≡ core_of_processor p
  core-at = map-at s.cores.items k p present ∙ ap core_of_processor (sym p-is)

  pub stepping : (x : Instr)
      → slice_get (program_of t k) p.place ≡ Some x
      → effect_of t d (state_of_snapshot s) (step k) ≡ effect_by d s.memory.items k (action_of x) (core_of_processor p)
  stepping x at =
      ap (λ z. step_of d s.memory.items k (slice_get (program_of t k) z.place) z) core-at
      ∙ ap (λ i. step_of d s.memory.items k i (core_of_processor p)) at

  pub done : slice_get (program_of t k) p.place ≡ None → effect_of t d (state_of_snapshot s) (step k) ≡ stalled stall.Done (core_of_processor p)
  done at =
      ap (λ z. step_of d s.memory.items k (slice_get (program_of t k) z.place) z) core-at
      ∙ ap (λ i. step_of d s.memory.items k i (core_of_processor p)) at

  pub draining : effect_of t d (state_of_snapshot s) (drain k) ≡ drain_of (core_of_processor p)
  draining = ap drain_of core-at

  pub acted : (c : Choice) (f : Effect) (words : List ℕ) (cores : List Processor) (q : Processor)
      → chosen c ≡ k
      → effect_of t d (state_of_snapshot s) c ≡ f
      → core_of_processor q ≡ f.after
      → words ≡ memory_after f.commits s.memory.items → cores ≡ slice_set s.cores.items k q
      → record { memory = words; cores = map core_of_processor cores } ≡ after_choice t d (state_of_snapshot s) c
  acted c f words cores q e g a m n = rw (e, g, m, n, map-set s.cores.items k q, a) refl

pub instr-at : (program : List Instr) (i : ℕ) (x : Instr) → i < length program → x ≡ slice_index_or program i x → slice_get program i ≡ Some x
instr-at program i x l q = slice_get-get_or program i x l ∙ ap Some (sym q)

pub beyond : (program : List Instr) (i : ℕ) → length program ≤ i → slice_get program i ≡ None
beyond [] i l = refl
beyond (x ∷ xs) zero l = absurd (let z : ⊥ = omega (arith, l) in z)
beyond (x ∷ xs) (suc i) l = beyond xs i (omega (arith, l))

set-same : (xs : List CoreState) (k : ℕ) → xs ≡ slice_set xs k (slice_index_or xs k idle)
set-same [] k = refl
set-same (x ∷ xs) zero = refl
set-same (x ∷ xs) (suc k) = ap (λ z. x ∷ z) (set-same xs k)

-- a core at the end of its program stays
pub ends : (t : Litmus) (d : ℕ) (s : State) (k : ℕ) → slice_get (program_of t k) (core_of s k).place ≡ None → s ≡ after_choice t d s (step k)
ends t d s k q =
    ap (λ cs. record { memory = s.memory; cores = cs }) (set-same s.cores k)
    ∙ ap (λ i. applied s k (step_of d s.memory k i (core_of s k))) (sym q)

pub same-at : (xs : List Processor) (k : ℕ) (p q : Processor) → k < length xs → p ≡ slice_index_or xs k p → q ≡ slice_index_or xs k q → p ≡ q
same-at [] k p q l e f = absurd (let z : ⊥ = omega (arith, l) in z)
same-at (x ∷ xs) zero p q l e f = e ∙ sym f
same-at (x ∷ xs) (suc k) p q l e f = same-at xs k p q (omega (arith, l)) e f

pub step-is : (t : Litmus) (d : ℕ) (s : Snapshot) (k : ℕ) (p q : Processor) (program : List Instr) (place : ℕ) (a : Action) (x : Instr)
    → k < length s.cores.items → p ≡ slice_index_or s.cores.items k p → q ≡ slice_index_or s.cores.items k q
    → program ≡ program_of t k → place ≡ q.place → place < length program → a ≡ action_of (slice_index_or program place x)
    → effect_of t d (state_of_snapshot s) (step k) ≡ effect_by d s.memory.items k a (core_of_processor p)
step-is t d s k p q program place a x l e f g h m b =
    let same : p ≡ q = same-at s.cores.items k p q l e f in
    let place-is : place ≡ p.place = h ∙ ap (λ z. z.place) (sym same) in
    let stands : slice_get (program_of t k) p.place ≡ Some (slice_index_or program place x) =
    ap (λ z. slice_get z p.place) (sym g) ∙ ap (λ z. slice_get program z) (sym place-is) ∙ slice_get-get_or program place x m in
    stepping t d s k p l e (slice_index_or program place x) stands ∙ ap (λ z. effect_by d s.memory.items k z (core_of_processor p)) (sym b)

-- ---- whether a choice stalled

pub stall-why : (o : Outcome) → (stall_count o == 1) ≡ true → (why : Stall) × (o ≡ Stalled why)
stall-why Committed q = absurd (let z : ⊥ = cc in z)
stall-why Buffered q = absurd (let z : ⊥ = cc in z)
stall-why Moved q = absurd (let z : ⊥ = cc in z)
stall-why Asked q = absurd (let z : ⊥ = cc in z)
stall-why (Stalled why) q = (why, refl)

pub takes-effect : (o : Outcome) → (stall_count o == 1) ≡ false → stall_count o ≡ 0
takes-effect Committed q = refl
takes-effect Buffered q = refl
takes-effect Moved q = refl
takes-effect Asked q = refl
takes-effect (Stalled why) q = absurd (let z : ⊥ = cc in z)
