-- One of the choices of a stubborn set can be made first: whatever the choices to the end, they lead there after it too, and are one fewer.
use Rattle.tso_laws.proofs.EagerVocabulary.{◌≡◌, ◌<◌, ◌⊎◌, ℕ, ◌+◌, zero, suc, List, [], ◌∷◌, Bool, true, false, Some, length, slice_get}
use Rattle.tso_laws.proofs.EagerVocabulary.{arith, ap, sym, ◌∙◌, refl, subst, inl, inr, get_or-set_same, action_of, Litmus, IsWellFormed, State}
use Rattle.tso_laws.proofs.EagerVocabulary.{Effect, idle, program_of, core_of, effect_by, step_of, effect_of, chosen, after_choice, step}
use Rattle.tso_laws.proofs.EagerVocabulary.{drain, Instr, Loc, Operand, Action, Store, Load, Move, Fence, Lock, Entry, Choice, Step, Drain}
use Rattle.tso_laws.proofs.EagerVocabulary.{lt-or, IsDead, Reaches, IsSized, ChoiceSet, has_step, has_drain, has_choice, IsApartBy}
use Rattle.tso_laws.proofs.EagerVocabulary.{IsApartDrain, IsStubborn, no-program, no-core}
use Rattle.tso_terms.specs.declared.choice.Stall.TheVariants as stall
use Rattle.tso_laws.proofs.Own.{Goes, drain-is, either-way, core-drained, front-stepped}
use Rattle.tso_laws.proofs.Beside.{stall-same, drain-empty, acts-when, loads, stalls-or-goes, no-instr, absent-same, sized-after}
use Rattle.tso_laws.proofs.Apart.{OwnPart, Aside, aside, others-held-after}

module _ (d : ℕ) (t : Litmus) (test : IsWellFormed t) (set : ChoiceSet) where
  -- ---- a choice outside the set beside what the set has of its core

  module _ (s : State) (sized : IsSized t s) (st : IsStubborn d t set s) where
    neither : (c : Choice) → has_step set (chosen c) ≡ false → has_drain set (chosen c) ≡ false → OwnPart d t set s c
    neither c p q = record { steps = λ r. absurd (let z : ⊥ = cc in z); drains = λ r. absurd (let z : ⊥ = cc in z); swaps = none }
      where
        none : (m : Choice)
            → chosen m ≡ chosen c
            → has_choice set m ≡ true
            → after_choice t d (after_choice t d s c) m ≡ after_choice t d (after_choice t d s m) c
        none (Step j) e r = absurd (let y = ap (has_step set) e in let z : ⊥ = cc in z)
        none (Drain j) e r = absurd (let y = ap (has_drain set) e in let z : ⊥ = cc in z)

    step-own : (k : ℕ) → k < length s.cores → has_step set k ≡ false → (after_choice t d s (step k) ≡ s) ⊎ OwnPart d t set s (step k)
    step-own k l out = go (has_drain set k) refl
      where
        drain-first : (m : Choice) → chosen m ≡ k → has_choice set m ≡ true
            → after_choice t d (after_choice t d s (step k)) (drain k) ≡ after_choice t d (after_choice t d s (drain k)) (step k)
            → after_choice t d (after_choice t d s (step k)) m ≡ after_choice t d (after_choice t d s m) (step k)
        drain-first (Step j) e r w = absurd (let y = ap (has_step set) e in let z : ⊥ = cc in z)
        drain-first (Drain j) e r w =
            subst (λ n. after_choice t d (after_choice t d s (step k)) (drain n) ≡ after_choice t d (after_choice t d s (drain n)) (step k)) (sym e) w

        with-drain : IsApartDrain d t set s k → (after_choice t d s (step k) ≡ s) ⊎ OwnPart d t set s (step k)
        with-drain h = elim (stalls-or-goes d t test s sized k l h.oldest h.later h.buffered h.pending) [
          | inl e ↦ inl e
          | inr (x, at, g) ↦
              let f = front-stepped d t s k x h.oldest h.later l at h.pending g in
              inr (record {
                steps = λ r. absurd (let z : ⊥ = cc in z);
                drains = λ r.
                    record {
                      oldest = h.oldest;
                      later = f.0;
                      pending = f.1;
                      others = others-held-after d t set s st (step k) out l true h.oldest.loc.0 k h.others;
                      buffered = h.buffered;
                    };
                swaps = λ m e r. drain-first m e r (sym (either-way d t s k x h.oldest h.later l at h.pending g));
              })
        ]

        go : (b : Bool) → has_drain set k ≡ b → (after_choice t d s (step k) ≡ s) ⊎ OwnPart d t set s (step k)
        go false q = inr (neither (step k) out q)
        go true q = with-drain (st.drains_apart k q)

    drain-own : (k : ℕ) → k < length s.cores → has_drain set k ≡ false → (after_choice t d s (drain k) ≡ s) ⊎ OwnPart d t set s (drain k)
    drain-own k l out = go (has_step set k) refl
      where
        step-first : (m : Choice) → chosen m ≡ k → has_choice set m ≡ true
            → after_choice t d (after_choice t d s (drain k)) (step k) ≡ after_choice t d (after_choice t d s (step k)) (drain k)
            → after_choice t d (after_choice t d s (drain k)) m ≡ after_choice t d (after_choice t d s m) (drain k)
        step-first (Drain j) e r w = absurd (let y = ap (has_drain set) e in let z : ⊥ = cc in z)
        step-first (Step j) e r w =
            subst (λ n. after_choice t d (after_choice t d s (drain k)) (step n) ≡ after_choice t d (after_choice t d s (step n)) (drain k)) (sym e) w

        with-step : (x : Instr) (a : Action) (p : Entry) (ps : List Entry)
            → slice_get (program_of t k) (core_of s k).place ≡ Some x
            → action_of x ≡ a
            → (core_of s k).pending ≡ p ∷ ps
            → IsApartBy d t set s k a → OwnPart d t set s (drain k)
        with-step x (Store loc operand) p ps at e q (inl h) = absurd (let r = h.1 in let z : ⊥ = cc in z)
        with-step x (Store loc operand) p ps at e q (inr h) = absurd (let r = h.1 in let z : ⊥ = cc in z)
        with-step x (Load reg loc) p ps at e q h =
            let g : Goes d s.memory (core_of s k) (action_of x) =
            subst (λ a. Goes d s.memory (core_of s k) a) (sym e) (loads d t test s sized k l x reg loc at e) in
            let c = core-drained d t s k x p ps l at q g in
            record {
              steps = λ r. record {
                next = x;
                stands = subst (λ z. slice_get (program_of t k) z.place ≡ Some x) (sym c) at;
                held =
                    subst (λ a. IsApartBy d t set (after_choice t d s (drain k)) k a) (sym e)
                    (others-held-after d t set s st (drain k) out l false loc.0 k h);
              };
              drains = λ r. absurd (let z : ⊥ = cc in z);
              swaps = λ m n r. step-first m n r (either-way d t s k x p ps l at q g);
            }
        with-step x (Move change) p ps at e q h = absurd h
        with-step x Fence p ps at e q h = absurd (let z : ⊥ = cc in z)
        with-step x (Lock loc reg update) p ps at e q (inl h) = absurd (let z : ⊥ = cc in z)
        with-step x (Lock loc reg update) p ps at e q (inr h) = absurd (let r = h.0 in let z : ⊥ = cc in z)

        by-pending : has_step set k ≡ true → (xs : List Entry) → (core_of s k).pending ≡ xs → (after_choice t d s (drain k) ≡ s) ⊎ OwnPart d t set s (drain k)
        by-pending r [] q = inl (stall-same s k (effect_of t d s (drain k)) stall.Empty (drain-empty (core_of s k) q))
        by-pending r (p ∷ ps) q = let h = st.steps_apart k r in inr (with-step h.next (action_of h.next) p ps h.stands refl q h.held)

        go : (b : Bool) → has_step set k ≡ b → (after_choice t d s (drain k) ≡ s) ⊎ OwnPart d t set s (drain k)
        go false q = inr (neither (drain k) q out)
        go true q = by-pending q (core_of s k).pending refl

    -- it stalls, or the set stays stubborn beside it
    outside : (c : Choice) → has_choice set c ≡ false → (after_choice t d s c ≡ s) ⊎ Aside d t set s c
    outside c out = elim (lt-or (length s.cores) (chosen c)) [
      | inl l ↦ present c out l
      | inr l ↦ inl (absent-same d t s c sized.cores (let n = sized.cores in omega (arith, n, l)))
    ]
      where
        with-own : (c : Choice)
            → has_choice set c ≡ false
            → chosen c < length s.cores
            → (after_choice t d s c ≡ s) ⊎ OwnPart d t set s c
            → (after_choice t d s c ≡ s) ⊎ Aside d t set s c
        with-own c out l (inl q) = inl q
        with-own c out l (inr w) = inr (aside d t set s st c out l w)

        present : (c : Choice) → has_choice set c ≡ false → chosen c < length s.cores → (after_choice t d s c ≡ s) ⊎ Aside d t set s c
        present (Step k) out l = with-own (step k.0) out l (step-own k.0 l out)
        present (Drain k) out l = with-own (drain k.0) out l (drain-own k.0 l out)

    -- ---- one of the set takes effect

    drain-alive : (k : ℕ) → IsApartDrain d t set s k → IsDead d t s → ⊥
    drain-alive k h dead = elim (lt-or (length s.cores) k) [
      | inl l ↦
          let f : Effect = effect_of t d s (drain k) in
          let same : length (core_of s k).pending ≡ length f.after.pending =
          ap (λ z. length (core_of z k).pending) (sym (dead (drain k)))
          ∙ ap (λ c. length c.pending) (get_or-set_same s.cores k f.after idle l) in
          let fewer : length f.after.pending ≡ length h.later = ap (λ z. length z.after.pending) (drain-is (core_of s k) h.oldest h.later h.pending) in
          let more : length (core_of s k).pending ≡ suc (length h.later) = ap length h.pending in
          omega (arith, same, fewer, more)
      | inr l ↦ let q : core_of s k ≡ idle = no-core s.cores k l in let r = ap (λ c. c.pending) q in let w = h.pending in cc
    ]

    step-alive : (k : ℕ) (x : Instr)
        → slice_get (program_of t k) (core_of s k).place ≡ Some x
        → (effect_by d s.memory k (action_of x) (core_of s k)).after.place ≡ (core_of s k).place + 1
        → IsDead d t s
        → ⊥
    step-alive k x at on dead = elim (lt-or (length s.cores) k) [
      | inl l ↦
          let f : Effect = effect_of t d s (step k) in
          let same : (core_of s k).place ≡ f.after.place =
          ap (λ z. (core_of z k).place) (sym (dead (step k)))
          ∙ ap (λ c. c.place) (get_or-set_same s.cores k f.after idle l) in
          let further : f.after.place ≡ (core_of s k).place + 1 = ap (λ i. (step_of d s.memory k i (core_of s k)).after.place) at ∙ on in
          omega (arith, same, further)
      | inr l ↦ let q = no-instr (program_of t k) (core_of s k).place (no-program t.programs k (let n = sized.cores in omega (arith, n, l))) in cc
    ]

    alive : IsDead d t s → ⊥
    alive dead = go st.one.0 st.one.1
      where
        at-once : (k : ℕ) (loc : Loc) (operand : Operand)
            → d ≡ 0
            → (effect_by d s.memory k (Store loc operand) (core_of s k)).after.place ≡ (core_of s k).place + 1
        at-once k loc operand q = ap (λ n. (effect_by n s.memory k (Store loc operand) (core_of s k)).after.place) q

        by-action : (k : ℕ) (x : Instr) (a : Action) → slice_get (program_of t k) (core_of s k).place ≡ Some x → action_of x ≡ a → IsApartBy d t set s k a → ⊥
        by-action k x (Store loc operand) at e (inl h) = drain-alive k (st.drains_apart k h.1) dead
        by-action k x (Store loc operand) at e (inr h) =
            step-alive k x at (ap (λ a. (effect_by d s.memory k a (core_of s k)).after.place) e ∙ at-once k loc operand h.0) dead
        by-action k x (Load reg loc) at e h = step-alive k x at (ap (λ a. (effect_by d s.memory k a (core_of s k)).after.place) e) dead
        by-action k x (Move change) at e h = h
        by-action k x Fence at e h = drain-alive k (st.drains_apart k h) dead
        by-action k x (Lock loc reg update) at e (inl h) = drain-alive k (st.drains_apart k h) dead
        by-action k x (Lock loc reg update) at e (inr h) =
            step-alive k x at (ap (λ a. (effect_by d s.memory k a (core_of s k)).after.place) e
            ∙ ap (λ f. f.after.place) (acts-when stall.Lock (core_of s k) _ h.0))
            dead

        go : (c : Choice) → has_choice set c ≡ true → ⊥
        go (Step k) q = let h = st.steps_apart k.0 q in by-action k.0 h.next (action_of h.next) h.stands refl h.held
        go (Drain k) q = drain-alive k.0 (st.drains_apart k.0 q) dead

  -- ---- the first of the set that a run makes, made at once

  among-or-not : (c : Choice) → (has_choice set c ≡ true) ⊎ (has_choice set c ≡ false)
  among-or-not c = go (has_choice set c) refl
    where
      go : (b : Bool) → has_choice set c ≡ b → (has_choice set c ≡ true) ⊎ (has_choice set c ≡ false)
      go true q = inl q
      go false q = inr q

  module _ (last : State) (dead : IsDead d t last) where
    pub one-first : (n : ℕ) (s : State)
        → IsSized t s
        → IsStubborn d t set s
        → Reaches d t (suc n) s last
        → (m : Choice) × (has_choice set m ≡ true) × Reaches d t n (after_choice t d s m) last
    one-first zero s z st (inl q) = absurd (alive s z st (subst (λ y. IsDead d t y) (sym q) dead))
    one-first (suc n) s z st (inl h) = let w = one-first n s z st h in (w.0, w.1, inl w.2)
    one-first zero s z st (inr (c, r)) = elim (among-or-not c) [
      | inl q ↦ (c, q, r)
      | inr out ↦ elim (outside s z st c out) [
        | inl q ↦ absurd (alive s z st (subst (λ y. IsDead d t y) (sym (sym q ∙ r)) dead))
        | inr w ↦ absurd (alive (after_choice t d s c) (sized-after d t s c z) w.stubborn (subst (λ y. IsDead d t y) (sym r) dead))
      ]
    ]
    one-first (suc n) s z st (inr (c, r)) = elim (among-or-not c) [
      | inl q ↦ (c, q, r)
      | inr out ↦ elim (outside s z st c out) [
        | inl q ↦ let w = one-first n s z st (subst (λ y. Reaches d t (suc n) y last) q r) in (w.0, w.1, inl w.2)
        | inr w ↦
            let f = one-first n (after_choice t d s c) (sized-after d t s c z) w.stubborn r in
            (f.0, f.1, inr (c, subst (λ y. Reaches d t n y last) (w.swaps f.0 f.1) f.2))
      ]
    ]
