-- A core that has not ended gets on in each round.
use Rattle.tso_laws.proofs.Vocabulary.{◌≡◌, ◌≢◌, ◌<◌, ◌≤◌, ℕ, ◌*◌, zero, suc, List, [], ◌∷◌, ◌++◌, Option, Some, None, true, length}
use Rattle.tso_laws.proofs.Vocabulary.{slice_get, slice_index_or, drop, arith, ap, sym, ◌∙◌, refl, ◌⊎◌, inl, inr, subst, ◌==◌, nat_lt}
use Rattle.tso_laws.proofs.Vocabulary.{get_or-set_same, get_or-set_other, length-set, nat_tests, Litmus, decide, max-left, max-right}
use Rattle.tso_laws.proofs.Vocabulary.{longest, Entry, Instr, Action, Store, Fence, Lock, Choice, state_after, action_of, is_none_pending}
use Rattle.tso_laws.proofs.Vocabulary.{core_of, CoreState, State, idle, program_of, stored, effect_by, effect_of, chosen, after_choice}
use Rattle.tso_laws.proofs.Vocabulary.{start, step, drain, is_done, has_ended, run, run_from, stall_count, Among, CanBeCutIntoRounds}
use Rattle.tso_laws.proofs.Vocabulary.{cases_Bool, length-starts, all-done, starts-idle}
use Rattle.tso_laws.proofs.Work.{undone, work, weight, store_weight, choice-changes}

-- a core keeps its state, or gets on
pub record GetsOn (d : ℕ) (p : List Instr) (s v : CoreState) : Type 0 where
  pub less : undone d p s ≡ suc (undone d p v)
  pub within : s.place ≤ length p → v.place ≤ length p

pub own-core : (t : Litmus) (d : ℕ) (state : State) (a : Choice)
    → chosen a < length state.cores
    → core_of (after_choice t d state a) (chosen a) ≡ (effect_of t d state a).after
own-core t d state a l = get_or-set_same state.cores (chosen a) (effect_of t d state a).after idle l

pub other-core : (t : Litmus) (d : ℕ) (state : State) (a : Choice) (k : ℕ) → k ≢ chosen a → core_of (after_choice t d state a) k ≡ core_of state k
other-core t d state a k n = get_or-set_other state.cores (chosen a) k (effect_of t d state a).after idle n

gets-on-or-same : (t : Litmus) (d : ℕ) (state : State) (a : Choice) (k : ℕ) → k < length state.cores
    → GetsOn d (program_of t k) (core_of state k) (core_of (after_choice t d state a) k) ⊎ (core_of (after_choice t d state a) k ≡ core_of state k)
gets-on-or-same t d state a k l = elim (decide k (chosen a)) [
  | inl q ↦ mine k q l
  | inr n ↦ inr (other-core t d state a k n)
]
  where
    mine : (k : ℕ)
        → k ≡ chosen a
        → k < length state.cores
        → GetsOn d (program_of t k) (core_of state k) (core_of (after_choice t d state a) k)
        ⊎ (core_of (after_choice t d state a) k ≡ core_of state k)
    mine k q l = rw q (elim (choice-changes t d state a) [
      | inl w ↦ inl (rw (own-core t d state a (subst (λ z. z < length state.cores) q l)) (record { less = w.less; within = w.within }))
      | inr w ↦ inr (own-core t d state a (subst (λ z. z < length state.cores) q l) ∙ w.same)
    ])

-- where the choice takes effect, its core gets on
gets-on : (t : Litmus) (d : ℕ) (state : State) (a : Choice) → chosen a < length state.cores → stall_count (effect_of t d state a).outcome ≡ 0
    → undone d (program_of t (chosen a)) (core_of state (chosen a)) ≡ suc (undone d (program_of t (chosen a)) (core_of (after_choice t d state a) (chosen a)))
gets-on t d state a l o = elim (choice-changes t d state a) [
  | inl w ↦ rw (own-core t d state a l) w.less
  | inr w ↦ absurd (let q = w.stalled in let z : ⊥ = cc in z)
]

pub size-kept : (t : Litmus) (d : ℕ) (state : State) (a : Choice) → length (after_choice t d state a).cores ≡ length state.cores
size-kept t d state a = length-set state.cores (chosen a) (effect_of t d state a).after

-- never more to do
pub record NoMore (d : ℕ) (p : List Instr) (s v : CoreState) : Type 0 where
  pub less : undone d p v ≤ undone d p s
  pub within : s.place ≤ length p → v.place ≤ length p

pub no-more : (t : Litmus) (d : ℕ) (state : State) (cs : List Choice) (k : ℕ) → k < length state.cores
    → NoMore d (program_of t k) (core_of state k) (core_of (state_after t d state cs) k)
no-more t d state [] k l = record { less = omega arith; within = λ h. h }
no-more t d state (c ∷ cs) k l =
    let r = no-more t d (after_choice t d state c) cs k (rw (size-kept t d state c) l) in
    elim (gets-on-or-same t d state c k l) [
      | inl w ↦ record { less = let a = w.less in let b = r.less in omega arith; within = λ h. r.within (w.within h) }
      | inr w ↦ subst (λ z. NoMore d (program_of t k) z (core_of (state_after t d (after_choice t d state c) cs) k)) w r
    ]

-- a choice that takes effect whatever the rest of the machine is
abbrev Able : Litmus → ℕ → CoreState → Choice → Type 0
Able t d s a = (state : State) → core_of state (chosen a) ≡ s → stall_count (effect_of t d state a).outcome ≡ 0

falls : (t : Litmus) (d : ℕ) (state : State) (cs : List Choice) (a : Choice) (s : CoreState)
    → chosen a < length state.cores
    → core_of state (chosen a) ≡ s
    → Able t d s a
    → Among a cs
    → undone d (program_of t (chosen a)) (core_of (state_after t d state cs) (chosen a)) < undone d (program_of t (chosen a)) s
falls t d state [] a s l q f m = absurd m
falls t d state (c ∷ cs) a s l q f (inl e) =
    let r = (no-more t d (after_choice t d state c) cs (chosen a) (rw (size-kept t d state c) l)).less in
    let g = gets-on t d state a l (f state q) in
    let h : undone d (program_of t (chosen a)) (core_of state (chosen a))
    ≡ suc (undone d (program_of t (chosen a)) (core_of (after_choice t d state c) (chosen a))) =
    subst (λ z.
    undone d (program_of t (chosen a)) (core_of state (chosen a))
    ≡ suc (undone d (program_of t (chosen a)) (core_of (after_choice t d state z) (chosen a))))
    e g in
    let i : undone d (program_of t (chosen a)) (core_of state (chosen a)) ≡ undone d (program_of t (chosen a)) s =
    ap (λ z. undone d (program_of t (chosen a)) z) q in
    omega arith
falls t d state (c ∷ cs) a s l q f (inr m) =
    elim (gets-on-or-same t d state c (chosen a) l) [
      | inl w ↦ let r = (no-more t d (after_choice t d state c) cs (chosen a) (rw (size-kept t d state c) l)).less in
          let h = w.less in
          let i : undone d (program_of t (chosen a)) (core_of state (chosen a)) ≡ undone d (program_of t (chosen a)) s =
          ap (λ z. undone d (program_of t (chosen a)) z) q in
          omega arith
      | inr w ↦ falls t d (after_choice t d state c) cs a s (rw (size-kept t d state c) l) (w ∙ q) f m
    ]

stored-takes : (d : ℕ) (s : CoreState) (e : Entry) → s.pending ≡ [] → stall_count (stored d s e).outcome ≡ 0
stored-takes zero s e q = refl
stored-takes (suc n) s e q = rw q (let z : nat_lt 0 (suc n) ≡ true = grind (arith, nat_tests) in rw z refl)

-- with nothing pending an instruction takes effect
step-takes : (c d : ℕ) (memory : List ℕ) (a : Action) (s : CoreState) → s.pending ≡ [] → stall_count (effect_by d memory c a s).outcome ≡ 0
step-takes c d memory (Store loc operand) s q = stored-takes d s _ q
step-takes c d memory Fence s q = rw q refl
step-takes c d memory (Lock loc reg update) s q = rw q refl
step-takes c d memory _ s q = refl

work-past : (d : ℕ) (p : List Instr) (n : ℕ) → slice_get p n ≡ None → work d (drop n p) ≡ 0
work-past d [] zero e = refl
work-past d [] (suc n) e = refl
work-past d (x ∷ xs) zero e = absurd (let z : ⊥ = cc in z)
work-past d (x ∷ xs) (suc n) e = work-past d xs n e

-- after a round a core has less to do, or had nothing to do
in-round : (t : Litmus) (d : ℕ) (state : State) (cs : List Choice) (k : ℕ) → k < length state.cores → Among (step k) cs → Among (drain k) cs
    → (undone d (program_of t k) (core_of state k) ≡ 0)
    ⊎ (undone d (program_of t k) (core_of (state_after t d state cs) k)
    < undone d (program_of t k) (core_of state k))
in-round t d state cs k l a b = by_pending (core_of state k).pending refl
  where
    by_place : (i : Option Instr) → slice_get (program_of t k) (core_of state k).place ≡ i → (core_of state k).pending ≡ []
        → (undone d (program_of t k) (core_of state k) ≡ 0)
        ⊎ (undone d (program_of t k) (core_of (state_after t d state cs) k)
        < undone d (program_of t k) (core_of state k))
    by_place None e p = inl (let n = work-past d (program_of t k) (core_of state k).place e in let m = ap length p in omega arith)
    by_place (Some x) e p =
        inr (falls t d state cs (step k) (core_of state k) l refl
        (λ other q. rw (q, e) (step-takes k d other.memory (action_of x) (core_of state k) p)) a)

    by_pending : (q : List Entry) → (core_of state k).pending ≡ q
        → (undone d (program_of t k) (core_of state k) ≡ 0)
        ⊎ (undone d (program_of t k) (core_of (state_after t d state cs) k)
        < undone d (program_of t k) (core_of state k))
    by_pending [] p = by_place (slice_get (program_of t k) (core_of state k).place) refl p
    by_pending (y ∷ ys) p = inr (falls t d state cs (drain k) (core_of state k) l refl (λ other q. rw (q, p) refl) b)

pub after-append : (t : Litmus) (d : ℕ) (state : State) (xs ys : List Choice) → state_after t d state (xs ++ ys) ≡ state_after t d (state_after t d state xs) ys
after-append t d state [] ys = refl
after-append t d state (x ∷ xs) ys = after-append t d (after_choice t d state x) xs ys

pub size-after : (t : Litmus) (d : ℕ) (state : State) (cs : List Choice) → length (state_after t d state cs).cores ≡ length state.cores
size-after t d state [] = refl
size-after t d state (c ∷ cs) = size-after t d (after_choice t d state c) cs ∙ size-kept t d state c

-- after as many rounds as a core has choices to make there is none left
in-rounds : (t : Litmus) (d : ℕ) (state : State) (r n : ℕ) (cs : List Choice) (k : ℕ)
    → k < length state.cores
    → n ≡ length state.cores
    → CanBeCutIntoRounds n r cs
    → undone d (program_of t k) (core_of state k) ≤ r → undone d (program_of t k) (core_of (state_after t d state cs) k) ≡ 0
in-rounds t d state zero n cs k l e cut u = let h = (no-more t d state cs k l).less in omega arith
in-rounds t d state (suc r) n cs k l e cut u =
    let round : List Choice = cut.0 in let rest : List Choice = cut.1 in
    let size = size-after t d state round in
    let c = cut.3 k (rw e l) in
    let m : undone d (program_of t k) (core_of (state_after t d state round) k) ≤ r =
    elim (in-round t d state round k l c.0 c.1) [
      | inl z ↦ let h = (no-more t d state round k l).less in omega arith
      | inr z ↦ omega arith
    ] in
    rw (cut.2, after-append t d state round rest)
    (in-rounds t d (state_after t d state round) r n rest k (rw size l) (e ∙ sym size) cut.4 m)

work-none : (d : ℕ) (p : List Instr) (n : ℕ) → n ≤ length p → work d (drop n p) ≡ 0 → length p ≡ n
work-none d [] zero l e = refl
work-none d [] (suc n) l e = absurd (omega arith)
work-none d (x ∷ xs) zero l e = absurd (let w = positive d (action_of x) in omega arith)
  where
    store-positive : (d : ℕ) → 0 < store_weight d
    store-positive zero = omega arith
    store-positive (suc n) = omega arith

    positive : (d : ℕ) (a : Action) → 0 < weight d a
    positive d (Store loc operand) = store-positive d
    positive d _ = omega arith
work-none d (x ∷ xs) (suc n) l e = ap suc (work-none d xs n (omega arith) e)

pub done-now : (d : ℕ) (p : List Instr) (s : CoreState) → undone d p s ≡ 0 → s.place ≤ length p → is_done p s ≡ true
done-now d p s u l =
    let a : length p ≡ s.place = work-none d p s.place l (omega arith) in
    let b : (length p == s.place) ≡ true = same (length p) s.place a in
    let m : length s.pending ≡ 0 = omega arith in
    rw b (none s.pending m)
  where
    same : (a b : ℕ) → a ≡ b → (a == b) ≡ true
    same a b h = grind (arith, nat_tests)

    none : (q : List Entry) → length q ≡ 0 → is_none_pending q ≡ true
    none [] h = refl
    none (y ∷ ys) h = absurd (omega arith)

work-twice : (d : ℕ) (p : List Instr) → work d p ≤ 2 * length p
work-twice d [] = omega arith
work-twice d (x ∷ xs) = let h = work-twice d xs in let w = at_most d (action_of x) in omega arith
  where
    store-at_most : (d : ℕ) → store_weight d ≤ 2
    store-at_most zero = omega arith
    store-at_most (suc n) = omega arith

    at_most : (d : ℕ) (a : Action) → weight d a ≤ 2
    at_most d (Store loc operand) = store-at_most d
    at_most d _ = omega arith

longest-at : (ps : List (List Instr)) (k : ℕ) → length (slice_index_or ps k []) ≤ longest ps
longest-at [] k = omega arith
longest-at (p ∷ ps) zero = max-left (length p) (longest ps)
longest-at (p ∷ ps) (suc k) = let a = longest-at ps k in let b = max-right (length p) (longest ps) in omega arith

-- a run has ended when the state after all choices has
ended-if-after : (t : Litmus) (d : ℕ) (state : State) (cs : List Choice) → has_ended t (state_after t d state cs) ≡ true → (run_from t d state cs).ended ≡ true
ended-if-after t d state [] h = h
ended-if-after t d state (c ∷ cs) h = elim (cases_Bool (has_ended t state)) [
  | inl is ↦ rw is refl
  | inr is ↦ rw is (ended-if-after t d (after_choice t d state c) cs h)
]

pub rounds-end : (t : Litmus) (d : ℕ) (cs : List Choice) → CanBeCutIntoRounds (length t.programs) (2 * longest t.programs) cs → (run t d cs).ended ≡ true
rounds-end t d cs cut = ended-if-after t d (start t) cs (all-done t.programs (state_after t d (start t) cs).cores each)
  where
    at_start : (k : ℕ) → undone d (program_of t k) (core_of (start t) k) ≤ 2 * longest t.programs
    at_start k =
        let i = starts-idle 0 t.programs t.registers k in let w = work-twice d (program_of t k) in let l = longest-at t.programs k in
        rw (i.0, i.1) (omega arith)

    each : (k : ℕ)
        → k < length (state_after t d (start t) cs).cores
        → is_done (slice_index_or t.programs k []) (slice_index_or (state_after t d (start t) cs).cores k idle) ≡ true
    each k l =
        let size = size-after t d (start t) cs in let n = length-starts 0 t.programs t.registers in
        let m : k < length (start t).cores = omega arith in
        let i = starts-idle 0 t.programs t.registers k in
        done-now d (program_of t k) (core_of (state_after t d (start t) cs) k)
        (in-rounds t d (start t) (2 * longest t.programs) (length t.programs) cs k m (sym n) cut (at_start k))
        ((no-more t d (start t) cs k m).within (rw i.0 (omega arith)))
