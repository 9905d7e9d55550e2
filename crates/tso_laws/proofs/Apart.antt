-- A choice outside a stubborn set beside those of the set: it stalls, or the set stays stubborn and the choice may be made after any of
-- the set as well as before it.
use Rattle.tso_laws.proofs.EagerVocabulary.{◌≡◌, ◌≢◌, ◌<◌, ◌≤◌, ℕ, List, [], ◌∷◌, Bool, true, false, Some, length, slice_get, slice_index}
use Rattle.tso_laws.proofs.EagerVocabulary.{ap, sym, ◌∙◌, refl, subst, inl, inr, get_or-set_same, get_or-set_other, action_of, Litmus}
use Rattle.tso_laws.proofs.EagerVocabulary.{CoreState, State, idle, program_of, core_of, effect_by, step_of, drain_of, effect_of, chosen}
use Rattle.tso_laws.proofs.EagerVocabulary.{memory_after, applied, after_choice, Action, Store, Load, Move, Fence, Lock, Entry, Choice}
use Rattle.tso_laws.proofs.EagerVocabulary.{Step, Drain, decide, ChoiceSet, has_step, has_drain, has_choice, IsHeldBack, OthersAreHeldBack}
use Rattle.tso_laws.proofs.EagerVocabulary.{IsApartBy, IsApartStep, IsApartDrain, IsStubborn}
use Rattle.tso_terms.specs.declared.choice.Stall.TheVariants as stall
use Rattle.tso_laws.proofs.Places.{set-set-other, Silent, Only, silent-same, elsewhere, only-elsewhere, commute}
use Rattle.tso_laws.proofs.Avoiding.{by-wait, by-store}
use Rattle.tso_laws.proofs.Others.{action-same, step-same, same-all, core-stays}
use Rattle.tso_laws.proofs.Own.{drain-is}
use Rattle.tso_laws.proofs.Beside.{store-full, waits-when, loads}
use Rattle.tso_laws.proofs.EagerHeld.{Passes, held-passes, held-after}

-- the entries of the effect are silent, or at one location at which all other cores are held
pub data HeldZone (d : ℕ) (t : Litmus) (set : ChoiceSet) (s : State) (k : ℕ) (es : List Entry) : Type 0 where
  quiet : Silent es → HeldZone d t set s k es
  at_one : (l : ℕ) → Only l es → OthersAreHeldBack d true l t set s k → HeldZone d t set s k es

-- the part of the choice's own core: what of it is in the set stays held there, and may come first
pub record OwnPart (d : ℕ) (t : Litmus) (set : ChoiceSet) (s : State) (c : Choice) : Type 0 where
  pub steps : has_step set (chosen c) ≡ true → IsApartStep d t set (after_choice t d s c) (chosen c)
  pub drains : has_drain set (chosen c) ≡ true → IsApartDrain d t set (after_choice t d s c) (chosen c)
  pub swaps : (m : Choice) → chosen m ≡ chosen c → has_choice set m ≡ true
      → after_choice t d (after_choice t d s c) m ≡ after_choice t d (after_choice t d s m) c

pub record Aside (d : ℕ) (t : Litmus) (set : ChoiceSet) (s : State) (c : Choice) : Type 0 where
  pub stubborn : IsStubborn d t set (after_choice t d s c)
  pub swaps : (m : Choice) → has_choice set m ≡ true → after_choice t d (after_choice t d s c) m ≡ after_choice t d (after_choice t d s m) c

module _ (d : ℕ) (t : Litmus) (set : ChoiceSet) (s : State) (st : IsStubborn d t set s) where
  abbrev HeldAt : Bool → ℕ → State → ℕ → Type 0
  HeldAt loads l z j = IsHeldBack d loads l (program_of t j) (core_of z j) (has_step set j) (has_drain set j)

  zone-by : (k : ℕ) (a : Action) → IsApartBy d t set s k a → HeldZone d t set s k (effect_by d s.memory k a (core_of s k)).commits
  zone-by k (Store loc operand) (inl h) =
      let w = st.drains_apart k h.1 in
      subst (λ f. HeldZone d t set s k f.commits) (sym (store-full d (core_of s k) _ w.buffered h.0)) (quiet tt)
  zone-by k (Store loc operand) (inr h) = at_one loc.0 (by-store (λ f. Only loc.0 f.commits) d (core_of s k) _ ((λ w. refl), tt) tt tt) h.2
  zone-by k (Load reg loc) h = quiet (refl, tt)
  zone-by k (Move change) h = absurd h
  zone-by k Fence h =
      let w = st.drains_apart k h in
      subst (λ f. HeldZone d t set s k f.commits) (sym (waits-when stall.Fence (core_of s k) _ w.oldest w.later w.pending)) (quiet tt)
  zone-by k (Lock loc reg update) (inl h) =
      let w = st.drains_apart k h in
      subst (λ f. HeldZone d t set s k f.commits) (sym (waits-when stall.Lock (core_of s k) _ w.oldest w.later w.pending)) (quiet tt)
  zone-by k (Lock loc reg update) (inr h) =
      at_one loc.0 (by-wait (λ f. Only loc.0 f.commits) stall.Lock (core_of s k) _ (λ none. ((λ w. refl), ((λ w. refl), tt))) tt) h.1

  zone-of : (m : Choice) → has_choice set m ≡ true → HeldZone d t set s (chosen m) (effect_of t d s m).commits
  zone-of (Step k) q =
      let h = st.steps_apart k.0 q in
      subst (λ i. HeldZone d t set s k.0 (step_of d s.memory k.0 i (core_of s k.0)).commits) (sym h.stands) (zone-by k.0 (action_of h.next) h.held)
  zone-of (Drain k) q =
      let h = st.drains_apart k.0 q in
      subst (λ f. HeldZone d t set s k.0 f.commits) (sym (drain-is (core_of s k.0) h.oldest h.later h.pending))
      (at_one h.oldest.loc.0 ((λ w. refl), tt) h.others)

  module _ (c : Choice) (out : has_choice set c ≡ false) (present : chosen c < length s.cores) where
    passes : (loads : Bool) (l k : ℕ) → chosen c ≢ k → OthersAreHeldBack d loads l t set s k → Passes loads l d t s c
    passes loads l k n h = held-passes loads l d t set s c out (h (chosen c) n)

    pub others-held-after : (loads : Bool) (l k : ℕ) → OthersAreHeldBack d loads l t set s k → OthersAreHeldBack d loads l t set (after_choice t d s c) k
    others-held-after loads l k h j o = elim (decide j (chosen c)) [
      | inl q ↦ subst (λ z. HeldAt loads l (after_choice t d s c) z) (sym q)
          (subst (λ z.
          IsHeldBack d loads l (program_of t (chosen c)) z (has_step set (chosen c)) (has_drain set (chosen c)))
          (sym (get_or-set_same s.cores (chosen c) (effect_of t d s c).after idle present))
          (held-after loads l d t set s c out (subst (λ z. HeldAt loads l s z) q (h j o))))
      | inr n ↦
          subst (λ z. IsHeldBack d loads l (program_of t j) z (has_step set j) (has_drain set j))
          (sym (get_or-set_other s.cores (chosen c) j (effect_of t d s c).after idle n)) (h j o)
    ]

    read-kept : (loads : Bool) (l k : ℕ)
        → chosen c ≢ k
        → OthersAreHeldBack d loads l t set s k
        → slice_index (after_choice t d s c).memory l ≡ slice_index s.memory l
    read-kept loads l k n h = elsewhere l (effect_of t d s c).commits s.memory (passes loads l k n h).writes

    -- a choice of the set that is of another core does the same after it
    action-kept : (k : ℕ) (a : Action)
        → chosen c ≢ k
        → IsApartBy d t set s k a
        → effect_by d (after_choice t d s c).memory k a (core_of s k) ≡ effect_by d s.memory k a (core_of s k)
    action-kept k (Store loc operand) n h = refl
    action-kept k (Load reg loc) n h = action-same d k _ _ (Load reg loc) (core_of s k) (read-kept false loc.0 k n h)
    action-kept k (Move change) n h = refl
    action-kept k Fence n h = refl
    action-kept k (Lock loc reg update) n (inl h) =
        let w = st.drains_apart k h in
        waits-when stall.Lock (core_of s k) _ w.oldest w.later w.pending ∙ sym (waits-when stall.Lock (core_of s k) _ w.oldest w.later w.pending)
    action-kept k (Lock loc reg update) n (inr h) = action-same d k _ _ (Lock loc reg update) (core_of s k) (read-kept true loc.0 k n h.1)

    member-same : (m : Choice) → chosen c ≢ chosen m → has_choice set m ≡ true → effect_of t d (after_choice t d s c) m ≡ effect_of t d s m
    member-same (Drain k) n q = ap drain_of (core-stays d t s k.0 c n)
    member-same (Step k) n q =
        let h = st.steps_apart k.0 q in
        let z : State = after_choice t d s c in
        ap (λ r. step_of d z.memory k.0 (slice_get (program_of t k.0) r.place) r) (core-stays d t s k.0 c n)
        ∙ ap (λ i. step_of d z.memory k.0 i (core_of s k.0)) h.stands
        ∙ action-kept k.0 (action_of h.next) n h.held
        ∙ sym (ap (λ i. step_of d s.memory k.0 i (core_of s k.0)) h.stands)

    -- and so does this choice after it
    outside-same : (m : Choice)
        → chosen c ≢ chosen m
        → HeldZone d t set s (chosen m) (effect_of t d s m).commits
        → effect_of t d (after_choice t d s m) c ≡ effect_of t d s c
    outside-same m n (quiet h) = go c n
      where
        go : (c : Choice) → chosen c ≢ chosen m → effect_of t d (after_choice t d s m) c ≡ effect_of t d s c
        go (Drain j) n = ap drain_of (core-stays d t s j.0 m (λ q. n (sym q)))
        go (Step j) n =
            step-same d j.0 (after_choice t d s m).memory s.memory (program_of t j.0) (core_of s j.0)
            (core_of (after_choice t d s m) j.0) (core-stays d t s j.0 m (λ q. n (sym q)))
            (λ x q. same-all (action_of x) _ _ (silent-same (effect_of t d s m).commits s.memory h))
    outside-same m n (at_one l h o) = (passes true l (chosen m) n o).reads refl (after_choice t d s m) (core-stays d t s (chosen c) m (λ q. n (sym q)))
        (λ i k. elsewhere i (effect_of t d s m).commits s.memory (only-elsewhere l i (effect_of t d s m).commits k h))

    memory-either : (m : Choice) → chosen c ≢ chosen m → HeldZone d t set s (chosen m) (effect_of t d s m).commits
        → memory_after (effect_of t d s m).commits (memory_after (effect_of t d s c).commits s.memory)
        ≡ memory_after (effect_of t d s c).commits (memory_after (effect_of t d s m).commits s.memory)
    memory-either m n (quiet h) =
        silent-same (effect_of t d s m).commits _ h ∙ sym (ap (memory_after (effect_of t d s c).commits) (silent-same (effect_of t d s m).commits s.memory h))
    memory-either m n (at_one l h o) = commute l (effect_of t d s m).commits (effect_of t d s c).commits s.memory h (passes true l (chosen m) n o).writes

    swaps-other : (m : Choice)
        → chosen c ≢ chosen m
        → has_choice set m ≡ true
        → after_choice t d (after_choice t d s c) m ≡ after_choice t d (after_choice t d s m) c
    swaps-other m n q =
        let w = zone-of m q in
        ap (λ f. applied (after_choice t d s c) (chosen m) f) (member-same m n q)
        ∙ state-is _ _ _ _ (memory-either m n w) (set-set-other s.cores (chosen c) (chosen m) (effect_of t d s c).after (effect_of t d s m).after n)
        ∙ sym (ap (λ f. applied (after_choice t d s m) (chosen c) f) (outside-same m n w))
      where
        state-is : (m n : List ℕ) (cs ds : List CoreState)
            → m ≡ n
            → cs ≡ ds
            → record { memory = m; cores = cs } ≡ (let z : State = record { memory = n; cores = ds } in z)
        state-is m n cs ds p q = rw (p, q) refl

    -- the set stays stubborn
    held-by-after : (k : ℕ) (a : Action) → chosen c ≢ k → IsApartBy d t set s k a → IsApartBy d t set (after_choice t d s c) k a
    held-by-after k (Store loc operand) n (inl h) = inl (subst (λ z. d ≤ length z.pending) (sym (core-stays d t s k c n)) h.0, h.1)
    held-by-after k (Store loc operand) n (inr h) =
        inr (h.0, subst (λ z. z.pending ≡ []) (sym (core-stays d t s k c n)) h.1, others-held-after true loc.0 k h.2)
    held-by-after k (Load reg loc) n h = others-held-after false loc.0 k h
    held-by-after k (Move change) n h = h
    held-by-after k Fence n h = h
    held-by-after k (Lock loc reg update) n (inl h) = inl h
    held-by-after k (Lock loc reg update) n (inr h) = inr (subst (λ z. z.pending ≡ []) (sym (core-stays d t s k c n)) h.0, others-held-after true loc.0 k h.1)

    pub aside : OwnPart d t set s c → Aside d t set s c
    aside own = record {
      stubborn = record {
        steps_apart = λ k q. elim (decide (chosen c) k) [
          | inl e ↦ subst (λ i. IsApartStep d t set (after_choice t d s c) i) e (own.steps (ap (has_step set) e ∙ q))
          | inr n ↦ let h = st.steps_apart k q in record {
            next = h.next;
            stands = subst (λ z. slice_get (program_of t k) z.place ≡ Some h.next) (sym (core-stays d t s k c n)) h.stands;
            held = held-by-after k (action_of h.next) n h.held;
          }
        ];
        drains_apart = λ k q. elim (decide (chosen c) k) [
          | inl e ↦ subst (λ i. IsApartDrain d t set (after_choice t d s c) i) e (own.drains (ap (has_drain set) e ∙ q))
          | inr n ↦ let h = st.drains_apart k q in record {
            oldest = h.oldest;
            later = h.later;
            pending = subst (λ z. z.pending ≡ h.oldest ∷ h.later) (sym (core-stays d t s k c n)) h.pending;
            others = others-held-after true h.oldest.loc.0 k h.others;
            buffered = h.buffered;
          }
        ];
        one = st.one;
      };
      swaps = λ m q. elim (decide (chosen m) (chosen c)) [ inl e ↦ own.swaps m e q | inr n ↦ swaps-other m (λ y. n (sym y)) q ];
    }
