-- What is left to do, and what each choice takes off it: a core has 3 for each instruction in front of it, and 2 for each
-- pending store, which asks and is drained. A locked instruction takes up to three choices (it asks, reads and writes), a
-- plain store three (it becomes pending, asks and is drained), all else fewer.
use Rattle.tso_laws.proofs.BusVocabulary.{◌≡◌, ◌≢◌, ◌<◌, ◌≤◌, ℕ, ◌+◌, ◌*◌, zero, suc, List, [], ◌∷◌, Option, Some, None, length, slice_get}
use Rattle.tso_laws.proofs.BusVocabulary.{slice_set, slice_index_or, drop, arith, ap, refl, ◌⊎◌, inl, inr, length-append, slice_get_within}
use Rattle.tso_laws.proofs.BusVocabulary.{Litmus, CoreState, State, Effect, idle, stalled, step_of, effect_of, chosen, core_of, program_of}
use Rattle.tso_laws.proofs.BusVocabulary.{applied, started, stall_count, MemoryAccess, NoAccess, Locks, step_access, drain_access, next_of}
use Rattle.tso_laws.proofs.BusVocabulary.{access_of, Instr, Entry, Choice, Step, Drain, Stall, instructions, drain_with, lt-or, drop-at}
use Rattle.tso_laws.proofs.BusVocabulary.{no-program, no-core}
use Rattle.tso_terms.specs.declared.choice.Stall.TheVariants as stall
use Rattle.tso_laws.proofs.Steps.{put, StepForm, stalls, buffers, makes, pairs, step-form}

abbrev pub left : List Instr → CoreState → ℕ
left p s = 3 * length (drop s.place p) + (length s.pending + length s.pending)

-- how much an effect takes off at least, by the access
abbrev pub price : MemoryAccess → ℕ
price NoAccess = 1
price (Locks loc) = 3
price _ = 2

pub price-most : (what : MemoryAccess) → price what ≤ 3
price-most NoAccess = omega arith
price-most _ = omega arith

-- an access leaves more to do than its ask
pub price-access : (what : MemoryAccess) → what ≢ NoAccess → 2 ≤ price what
price-access NoAccess n = absurd (n refl)
price-access _ n = omega arith

-- an effect that takes so much off what is left
pub record Paid (p : List Instr) (s : CoreState) (n : ℕ) (f : Effect) : Type 0 where
  pub took : stall_count f.outcome ≡ 0
  pub less : n + left p f.after ≤ left p s
  pub within : s.place ≤ length p → f.after.place ≤ length p

-- one that stalls
pub record Waits (what : MemoryAccess) (s : CoreState) (f : Effect) : Type 0 where
  pub none : what ≡ NoAccess
  pub why : Stall
  pub is : f ≡ stalled why s

abbrev pub Pays : List Instr → CoreState → MemoryAccess → Effect → Type 0
Pays p s what f = Paid p s (price what) f ⊎ Waits what s f

paid : (p : List Instr) (s : CoreState) (n : ℕ) (x : Instr) (f : Effect)
    → slice_get p s.place ≡ Some x
    → stall_count f.outcome ≡ 0
    → f.after.place ≡ s.place + 1
    → n + (length f.after.pending + length f.after.pending) ≤ 3 + (length s.pending + length s.pending) → Paid p s n f
paid p s n x f e o m w = record {
  took = o;
  less = rw (m, drop-at p s.place x e) (omega arith);
  within = λ h. rw m (let l = slice_get_within p s.place x e in omega arith);
}

by-form : (c d : ℕ) (p : List Instr) (memory : List ℕ) (s : CoreState) (x : Instr) (what : MemoryAccess) (f : Effect)
    → slice_get p s.place ≡ Some x
    → StepForm c memory (Some x) what s f
    → Pays p s what f
by-form c d p memory s x what f e (stalls w) = inr (record { none = w.none; why = w.why; is = w.is })
by-form c d p memory s x what f e (buffers w) =
    inl (rw (
      w.none,
      w.is,
    ) (paid p s 1 x (put s w.store) e refl refl (let m = length-append s.pending (w.store ∷ []) in omega arith)))
by-form c d p memory s x what f e (makes w) =
    inl (paid p s (price what) x f e w.took w.place (let m = ap length w.pending in let q = price-most what in omega arith))
by-form c d p memory s x what f e (pairs loc q w) =
    inl (paid p s (price what) x f e (ap stall_count w.took) w.place (let m = ap length w.pending in let q = price-most what in omega arith))

step-pays : (c d : ℕ) (p : List Instr) (memory : List ℕ) (s : CoreState) (i : Option Instr)
    → slice_get p s.place ≡ i
    → Pays p s (step_access d i s.pending) (step_of d memory c i s)
step-pays c d p memory s None e = inr (record { none = refl; why = stall.Done; is = refl })
step-pays c d p memory s (Some x) e = by-form c d p memory s x _ _ e (step-form d c memory (Some x) s)

drain-pays : (p : List Instr) (s : CoreState) (q : List Entry) → s.pending ≡ q → Pays p s (drain_access q) (drain_with s q)
drain-pays p s [] z = inr (record { none = refl; why = stall.Empty; is = refl })
drain-pays p s (y ∷ ys) z = inl (record { took = refl; less = let m = ap length z in omega arith; within = λ h. h })

pub choice-pays : (t : Litmus) (d : ℕ) (state : State) (a : Choice)
    → Pays (program_of t (chosen a)) (core_of state (chosen a)) (access_of t d state a) (effect_of t d state a)
choice-pays t d state (Step c) = step-pays c.0 d (program_of t c.0) state.memory (core_of state c.0) (next_of t state c.0) refl
choice-pays t d state (Drain c) = drain-pays (program_of t c.0) (core_of state c.0) (core_of state c.0).pending refl

-- a choice that has an access to make takes effect
pub access-pays : (t : Litmus) (d : ℕ) (state : State) (a : Choice) → access_of t d state a ≢ NoAccess
    → Paid (program_of t (chosen a)) (core_of state (chosen a)) (price (access_of t d state a)) (effect_of t d state a)
access-pays t d state a n = elim (choice-pays t d state a) [ inl w ↦ w | inr w ↦ absurd (n w.none) ]

-- with nothing pending an instruction doesn't stall
pub step-takes : (c d : ℕ) (memory : List ℕ) (x : Instr) (s : CoreState) → s.pending ≡ [] → stall_count (step_of d memory c (Some x) s).outcome ≡ 0
step-takes c d memory x s q = go _ _ (step-form d c memory (Some x) s)
  where
    go : (what : MemoryAccess) (f : Effect) → StepForm c memory (Some x) what s f → stall_count f.outcome ≡ 0
    go what f (stalls w) = absurd (elim w.cause [ inl n ↦ (let z : ⊥ = cc in z) | inr n ↦ n q ])
    go what f (buffers w) = ap (λ z. stall_count z.outcome) w.is
    go what f (makes w) = w.took
    go what f (pairs loc e w) = ap stall_count w.took

-- ---- of all cores

abbrev pub total : List (List Instr) → List CoreState → ℕ
total [] ss = 0
total (p ∷ ps) [] = 0
total (p ∷ ps) (s ∷ ss) = left p s + total ps ss

total-set : (ps : List (List Instr)) (ss : List CoreState) (k : ℕ) (v : CoreState) → k < length ss → k < length ps
    → total ps (slice_set ss k v) + left (slice_index_or ps k []) (slice_index_or ss k idle) ≡ total ps ss + left (slice_index_or ps k []) v
total-set [] ss k v a b = absurd (omega arith)
total-set (p ∷ ps) [] k v a b = absurd (omega arith)
total-set (p ∷ ps) (s ∷ ss) zero v a b = omega arith
total-set (p ∷ ps) (s ∷ ss) (suc k) v a b = let h = total-set ps ss k v (omega arith) (omega arith) in omega arith

absent-left : (t : Litmus) (state : State) (k : ℕ)
    → length state.cores ≡ length t.programs
    → length t.programs ≤ k
    → left (program_of t k) (core_of state k) ≡ 0
absent-left t state k n l = rw (no-program t.programs k l, no-core state.cores k (omega arith)) refl

pub paid-total : (t : Litmus) (state : State) (k n : ℕ) (f : Effect)
    → length state.cores ≡ length t.programs
    → 0 < n
    → Paid (program_of t k) (core_of state k) n f
    → n + total t.programs (applied state k f).cores ≤ total t.programs state.cores
paid-total t state k n f size some w = elim (lt-or (length t.programs) k) [
  | inl l ↦ let h = total-set t.programs state.cores k f.after (omega arith) l in let m = w.less in omega arith
  | inr l ↦ absurd (let m = w.less in let z = absent-left t state k size l in omega arith)
]

-- a core that has something left is there
pub left-present : (t : Litmus) (state : State) (k : ℕ)
    → length state.cores ≡ length t.programs
    → 0 < left (program_of t k) (core_of state k)
    → k < length t.programs
left-present t state k n h = elim (lt-or (length t.programs) k) [
  | inl l ↦ l
  | inr l ↦ absurd (let z = absent-left t state k n l in omega arith)
]

-- what a core has left is part of the whole
pub left-within : (ps : List (List Instr)) (ss : List CoreState) (k : ℕ)
    → k < length ps
    → k < length ss
    → left (slice_index_or ps k []) (slice_index_or ss k idle) ≤ total ps ss
left-within [] ss k a b = absurd (omega arith)
left-within (p ∷ ps) [] k a b = absurd (omega arith)
left-within (p ∷ ps) (s ∷ ss) zero a b = omega arith
left-within (p ∷ ps) (s ∷ ss) (suc k) a b = let h = left-within ps ss k (omega arith) (omega arith) in omega arith

-- a core that has something left, where there is one
pub record Busy (ps : List (List Instr)) (ss : List CoreState) : Type 0 where
  pub core : ℕ
  pub some : 0 < left (slice_index_or ps core []) (slice_index_or ss core idle)

pub busy-or-none : (ps : List (List Instr)) (ss : List CoreState) → (total ps ss ≡ 0) ⊎ Busy ps ss
busy-or-none [] ss = inl refl
busy-or-none (p ∷ ps) [] = inl refl
busy-or-none (p ∷ ps) (s ∷ ss) = elim (lt-or (left p s) 0) [
  | inl l ↦ inr (record { core = 0; some = l })
  | inr l ↦ elim (busy-or-none ps ss) [ inl z ↦ inl (omega arith) | inr b ↦ inr (record { core = suc b.core; some = b.some }) ]
]

-- a core past its last instruction has only pending stores left
pub drop-past : (p : List Instr) (n : ℕ) → slice_get p n ≡ None → length (drop n p) ≡ 0
drop-past [] zero e = refl
drop-past [] (suc n) e = refl
drop-past (x ∷ xs) zero e = absurd (let z : ⊥ = cc in z)
drop-past (x ∷ xs) (suc n) e = drop-past xs n e

pub drop-none : (p : List Instr) (n : ℕ) → n ≤ length p → length (drop n p) ≡ 0 → length p ≡ n
drop-none [] zero l e = refl
drop-none [] (suc n) l e = absurd (omega arith)
drop-none (x ∷ xs) zero l e = absurd (omega arith)
drop-none (x ∷ xs) (suc n) l e = ap suc (drop-none xs n (omega arith) e)

-- at first three for each instruction
pub start-total : (k : ℕ) (ps : List (List Instr)) (registers : List (List ℕ)) → total ps (started k ps registers) ≤ 3 * instructions ps
start-total k [] registers = omega arith
start-total k (p ∷ ps) registers = let h = start-total (k + 1) ps registers in omega arith
