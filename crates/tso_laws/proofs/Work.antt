-- What is left to do, and that each choice that takes effect does one part of it.
use Rattle.tso_laws.proofs.Vocabulary.{◌≡◌, ◌<◌, ◌≤◌, ℕ, ◌+◌, zero, suc, List, [], ◌∷◌, Option, Some, None, true, false, length, slice_get}
use Rattle.tso_laws.proofs.Vocabulary.{slice_set, slice_index_or, drop, arith, ap, sym, ◌∙◌, refl, ◌⊎◌, inl, inr, ◌==◌, nat_lt}
use Rattle.tso_laws.proofs.Vocabulary.{if◌then◌else◌, length-append, length-set, slice_get_within, nat_tests, Litmus, Entry, Instr, Action}
use Rattle.tso_laws.proofs.Vocabulary.{Store, Fence, Lock, Choice, Step, Drain, Stall, Committed, action_of, is_none_pending, core_of}
use Rattle.tso_laws.proofs.Vocabulary.{stalled, advanced, CoreState, State, Effect, idle, program_of, stored, when_drained, effect_by}
use Rattle.tso_laws.proofs.Vocabulary.{step_of, drain_of, effect_of, chosen, after_choice, started, start, lt-or, and-left, and-right}
use Rattle.tso_laws.proofs.Vocabulary.{is_done, all_done, has_ended, stall_count, run, run_from, store_count, stores_in, instructions}
use Rattle.tso_laws.proofs.Vocabulary.{stores_of_all, drop-at, drop-end, cases_Bool, length-starts, set-get_or, no-program, no-core}
use Rattle.tso_terms.specs.declared.choice.Stall.TheVariants as stall
use Rattle.tso_laws.proofs.Draining.{waits-or-acts, drains}
use Rattle.tso_laws.proofs.Folds.{put}

abbrev pub store_weight : ℕ → ℕ
store_weight zero = 1
store_weight (suc n) = 2

-- how many choices an action takes
abbrev pub weight : ℕ → Action → ℕ
weight d (Store loc operand) = store_weight d
weight d _ = 1

abbrev pub work : ℕ → List Instr → ℕ
work d [] = 0
work d (x ∷ xs) = weight d (action_of x) + work d xs

-- how many effective choices a core has still to make
abbrev pub undone : ℕ → List Instr → CoreState → ℕ
undone d p s = work d (drop s.place p) + length s.pending

pub record Advances (d : ℕ) (p : List Instr) (s : CoreState) (f : Effect) : Type 0 where
  pub took : stall_count f.outcome ≡ 0
  pub less : undone d p s ≡ suc (undone d p f.after)
  pub within : s.place ≤ length p → f.after.place ≤ length p

pub record Stays (s : CoreState) (f : Effect) : Type 0 where
  pub stalled : stall_count f.outcome ≡ 1
  pub same : f.after ≡ s
  pub none : f.commits ≡ []

abbrev pub Changes : ℕ → List Instr → CoreState → Effect → Type 0
Changes d p s f = Advances d p s f ⊎ Stays s f

stays : (d : ℕ) (p : List Instr) (s : CoreState) (why : Stall) → Changes d p s (stalled why s)
stays d p s why = inr (record { stalled = refl; same = refl; none = refl })

one-less : (d : ℕ) (p : List Instr) (s : CoreState) (x : Instr) (f : Effect)
    → slice_get p s.place ≡ Some x
    → stall_count f.outcome ≡ 0
    → f.after.place ≡ s.place + 1
    → weight d (action_of x) + length s.pending ≡ suc (length f.after.pending) → Advances d p s f
one-less d p s x f e o n w = record {
  took = o;
  less = rw (n, drop-at p s.place x e) (omega arith);
  within = λ h. rw n (let l = slice_get_within p s.place x e in omega arith);
}

stored-changes : (d : ℕ) (p : List Instr) (s : CoreState) (x : Instr) (y : Entry)
    → slice_get p s.place ≡ Some x
    → weight d (action_of x) ≡ store_weight d
    → Changes d p s (stored d s y)
stored-changes zero p s x y e w = inl (one-less 0 p s x (record { outcome = Committed; after = advanced s; commits = y ∷ [] }) e refl refl (omega arith))
stored-changes (suc n) p s x y e w =
    elim (nat_lt (length s.pending) (suc n)) as (λ b. Changes (suc n) p s (if b then put s y else stalled stall.Full s)) [
      | true ↦
          inl (one-less (suc n) p s x (put s y) e refl refl (let m = length-append s.pending (y ∷ []) in omega arith))
      | false ↦ stays (suc n) p s stall.Full
    ]

-- an instruction that waits until nothing is pending
waits-changes : (d : ℕ) (p : List Instr) (s : CoreState) (x : Instr) (why : Stall) (f : Effect) → slice_get p s.place ≡ Some x → weight d (action_of x) ≡ 1
    → stall_count f.outcome ≡ 0 → f.after.place ≡ s.place + 1 → f.after.pending ≡ s.pending → Changes d p s (when_drained why s f)
waits-changes d p s x why f e u o n q =
    waits-or-acts (λ f. Changes d p s f) why s f
    (λ none. inl (one-less d p s x f e o n (let a = ap length none in let b = ap length q in omega arith)))
    (stays d p s why)

pub step-changes : (c d : ℕ) (p : List Instr) (memory : List ℕ) (s : CoreState) (i : Option Instr)
    → slice_get p s.place ≡ i
    → Changes d p s (step_of d memory c i s)
step-changes c d p memory s None e = stays d p s stall.Done
step-changes c d p memory s (Some x) e = by_action (action_of x) refl
  where
    by_action : (a : Action) → action_of x ≡ a → Changes d p s (effect_by d memory c a s)
    by_action (Store loc operand) q = stored-changes d p s x _ e (ap (weight d) q)
    by_action Fence q = waits-changes d p s x stall.Fence _ e (ap (weight d) q) refl refl refl
    by_action (Lock loc reg update) q = waits-changes d p s x stall.Lock _ e (ap (weight d) q) refl refl refl
    by_action _ q = inl (one-less d p s x _ e refl refl (rw q (omega arith)))

pub drain-changes : (d : ℕ) (p : List Instr) (s : CoreState) → Changes d p s (drain_of s)
drain-changes d p s =
    drains (λ f. Changes d p s f) s (stays d p s stall.Empty)
    (λ x xs z. inl (record { took = refl; less = let m = ap length z in omega arith; within = λ h. h }))

pub choice-changes : (t : Litmus) (d : ℕ) (state : State) (a : Choice) → Changes d (program_of t (chosen a)) (core_of state (chosen a)) (effect_of t d state a)
choice-changes t d state (Step c) =
    step-changes c.0 d (program_of t c.0) state.memory (core_of state c.0) (slice_get (program_of t c.0) (core_of state c.0).place) refl
choice-changes t d state (Drain c) = drain-changes d (program_of t c.0) (core_of state c.0)

pub stays-same : (t : Litmus) (d : ℕ) (state : State) (c : Choice) → Stays (core_of state (chosen c)) (effect_of t d state c) → after_choice t d state c ≡ state
stays-same t d state c w = rw (w.none, w.same, set-get_or state.cores (chosen c) idle) refl

-- a choice of a core that isn't there stalls
pub absent-stays : (t : Litmus) (d : ℕ) (state : State) (c : Choice)
    → length state.cores ≡ length t.programs
    → length t.programs ≤ chosen c
    → Stays (core_of state (chosen c)) (effect_of t d state c)
absent-stays t d state c n l = elim (choice-changes t d state c) [
  | inl w ↦
      absurd (let m =
      w.less in
      let u : undone d (program_of t (chosen c)) (core_of state (chosen c)) ≡ 0 =
      rw (no-program t.programs (chosen c) l, no-core state.cores (chosen c) (omega arith)) refl in
      let z : ⊥ = omega arith in
      z)
  | inr w ↦ w
]

-- of all cores
abbrev pub remaining : ℕ → List (List Instr) → List CoreState → ℕ
remaining d [] ss = 0
remaining d (p ∷ ps) [] = 0
remaining d (p ∷ ps) (s ∷ ss) = undone d p s + remaining d ps ss

remaining-set : (d : ℕ) (ps : List (List Instr)) (ss : List CoreState) (k : ℕ) (v : CoreState) → k < length ss → k < length ps
    → remaining d ps (slice_set ss k v) + undone d (slice_index_or ps k []) (slice_index_or ss k idle) ≡ remaining d ps ss + undone d (slice_index_or ps k []) v
remaining-set d [] ss k v a b = absurd (omega arith)
remaining-set d (p ∷ ps) [] k v a b = absurd (omega arith)
remaining-set d (p ∷ ps) (s ∷ ss) zero v a b = omega arith
remaining-set d (p ∷ ps) (s ∷ ss) (suc k) v a b = let h = remaining-set d ps ss k v (omega arith) (omega arith) in omega arith

present-remaining : (t : Litmus) (d : ℕ) (state : State) (a : Choice) → length state.cores ≡ length t.programs → chosen a < length t.programs
    → stall_count (effect_of t d state a).outcome + remaining d t.programs state.cores ≡ suc (remaining d t.programs (after_choice t d state a).cores)
present-remaining t d state a n l =
    let h = remaining-set d t.programs state.cores (chosen a) (effect_of t d state a).after (omega arith) l in
    elim (choice-changes t d state a) [
      | inl w ↦ let m = w.less in rw w.took (omega arith)
      | inr w ↦
          let m : undone d (program_of t (chosen a)) (effect_of t d state a).after
          ≡ undone d (program_of t (chosen a)) (core_of state (chosen a)) =
          ap (λ z. undone d (program_of t (chosen a)) z) w.same in
          rw w.stalled (omega arith)
    ]

choice-remaining : (t : Litmus) (d : ℕ) (state : State) (a : Choice) → length state.cores ≡ length t.programs
    → stall_count (effect_of t d state a).outcome + remaining d t.programs state.cores ≡ suc (remaining d t.programs (after_choice t d state a).cores)
choice-remaining t d state a n = elim (lt-or (length t.programs) (chosen a)) [
  | inl l ↦ present-remaining t d state a n l
  | inr l ↦ let w = absent-stays t d state a n l in
      let m = w.stalled in
      let e : remaining d t.programs (after_choice t d state a).cores ≡ remaining d t.programs state.cores =
      ap (λ z. remaining d t.programs z.cores) (stays-same t d state a w) in
      omega arith
]

pub run-counts : (t : Litmus) (d : ℕ) (state : State) (cs : List Choice) → length state.cores ≡ length t.programs
    → (run_from t d state cs).used + remaining d t.programs (run_from t d state cs).state.cores
    ≡ (run_from t d state cs).stalled + remaining d t.programs state.cores
run-counts t d state [] n = refl
run-counts t d state (c ∷ cs) n =
    let h = run-counts t d (after_choice t d state c) cs (length-set state.cores (chosen c) (effect_of t d state c).after ∙ n) in
    let m = choice-remaining t d state c n in
    elim (cases_Bool (has_ended t state)) [ inl q ↦ rw q refl | inr q ↦ rw q (omega arith) ]

-- the run's end is a moment at which it has ended
pub run-ended : (t : Litmus) (d : ℕ) (state : State) (cs : List Choice) → (run_from t d state cs).ended ≡ has_ended t (run_from t d state cs).state
run-ended t d state [] = refl
run-ended t d state (c ∷ cs) = elim (cases_Bool (has_ended t state)) [ inl q ↦ rw q (sym q) | inr q ↦ rw q (run-ended t d (after_choice t d state c) cs) ]

pub is_none-is : (q : List Entry) → is_none_pending q ≡ true → q ≡ []
is_none-is [] h = refl
is_none-is (y ∷ ys) h = absurd (let z : ⊥ = cc in z)

pub done-length : (p : List Instr) (s : CoreState) → is_done p s ≡ true → length p ≡ s.place
done-length p s h = let m = and-left (length p == s.place) (is_none_pending s.pending) h in is_same (length p) s.place m
  where
    is_same : (a b : ℕ) → (a == b) ≡ true → a ≡ b
    is_same a b q = grind (arith, nat_tests)

pub done-undone : (d : ℕ) (p : List Instr) (s : CoreState) → is_done p s ≡ true → undone d p s ≡ 0
done-undone d p s h =
    let e : s.pending ≡ [] = is_none-is s.pending (and-right (length p == s.place) (is_none_pending s.pending) h) in
    rw (drop-end p s.place (done-length p s h), e) (omega arith)

done-remaining : (d : ℕ) (ps : List (List Instr)) (ss : List CoreState) → all_done ps ss ≡ true → remaining d ps ss ≡ 0
done-remaining d [] ss h = refl
done-remaining d (p ∷ ps) [] h = refl
done-remaining d (p ∷ ps) (s ∷ ss) h =
    let a = done-undone d p s (and-left (is_done p s) (all_done ps ss) h) in
    let b = done-remaining d ps ss (and-right (is_done p s) (all_done ps ss) h) in
    omega arith

abbrev works : ℕ → List (List Instr) → ℕ
works d [] = 0
works d (p ∷ ps) = work d p + works d ps

start-remaining : (d k : ℕ) (ps : List (List Instr)) (registers : List (List ℕ)) → remaining d ps (started k ps registers) ≡ works d ps
start-remaining d k [] registers = refl
start-remaining d k (p ∷ ps) registers = let h = start-remaining d (k + 1) ps registers in omega arith

weight-is : (n : ℕ) (a : Action) → weight (suc n) a ≡ 1 + store_count a
weight-is n (Store loc operand) = refl
weight-is n _ = refl

work-is : (n : ℕ) (p : List Instr) → work (suc n) p ≡ length p + stores_in p
work-is n [] = refl
work-is n (x ∷ xs) = let h = work-is n xs in let w = weight-is n (action_of x) in omega arith

works-are : (n : ℕ) (ps : List (List Instr)) → works (suc n) ps ≡ instructions ps + stores_of_all ps
works-are n [] = refl
works-are n (p ∷ ps) = let h = works-are n ps in let w = work-is n p in omega arith

weight-none : (a : Action) → weight 0 a ≡ 1
weight-none (Store loc operand) = refl
weight-none _ = refl

work-none : (p : List Instr) → work 0 p ≡ length p
work-none [] = refl
work-none (x ∷ xs) = let h = work-none xs in let w = weight-none (action_of x) in omega arith

works-none : (ps : List (List Instr)) → works 0 ps ≡ instructions ps
works-none [] = refl
works-none (p ∷ ps) = let h = works-none ps in let w = work-none p in omega arith

counted : (t : Litmus) (d : ℕ) (cs : List Choice) → (run t d cs).ended ≡ true → (run t d cs).used ≡ (run t d cs).stalled + works d t.programs
counted t d cs e =
    let h = run-counts t d (start t) cs (length-starts 0 t.programs t.registers) in
    let z = done-remaining d t.programs (run t d cs).state.cores (sym (run-ended t d (start t) cs) ∙ e) in
    let s = start-remaining d 0 t.programs t.registers in omega arith

pub counted-buffered : (t : Litmus) (d : ℕ) (cs : List Choice) → 0 < d → (run t d cs).ended ≡ true
    → (run t d cs).used ≡ (run t d cs).stalled + (instructions t.programs + stores_of_all t.programs)
counted-buffered t zero cs p e = absurd (omega arith)
counted-buffered t (suc n) cs p e = counted t (suc n) cs e ∙ ap (λ z. (run t (suc n) cs).stalled + z) (works-are n t.programs)

pub counted-unbuffered : (t : Litmus) (cs : List Choice) → (run t 0 cs).ended ≡ true
    → (run t 0 cs).used ≡ (run t 0 cs).stalled + instructions t.programs
counted-unbuffered t cs e = counted t 0 cs e ∙ ap (λ z. (run t 0 cs).stalled + z) (works-none t.programs)
