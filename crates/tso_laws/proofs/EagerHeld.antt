-- What a choice outside a stubborn set does beside a location that a choice of the set reads or writes.
use Rattle.tso_laws.proofs.EagerVocabulary.{◌≡◌, ◌≢◌, ◌<◌, ℕ, zero, suc, List, [], ◌∷◌, ◌++◌, Bool, true, false, Option, None, Some, length}
use Rattle.tso_laws.proofs.EagerVocabulary.{slice_get, slice_index, arith, ap, sym, ◌∙◌, refl, subst, nat_lt, inl, inr, if◌then◌else◌}
use Rattle.tso_laws.proofs.EagerVocabulary.{filter, action_of, Litmus, last_value, writes_to, entry, value_of, CoreState, State, program_of}
use Rattle.tso_laws.proofs.EagerVocabulary.{core_of, effect_by, step_of, drain_of, effect_of, chosen, loaded, stalled, R, W, Instr, Action}
use Rattle.tso_laws.proofs.EagerVocabulary.{Store, Load, Move, Fence, Lock, Entry, Choice, Step, Drain, step, meets, Avoids, ChoiceSet}
use Rattle.tso_laws.proofs.EagerVocabulary.{has_step, has_drain, has_choice, HasPending, HasNonePending, IsHeldBack, away, by_drain}
use Rattle.tso_laws.proofs.EagerVocabulary.{by_step, decide}
use Rattle.tso_terms.specs.declared.choice.Stall.TheVariants as stall
use Rattle.tso_laws.proofs.Places.{NotAt}
use Rattle.tso_laws.proofs.Avoiding.{buffered, by-wait, by-drain}
use Rattle.tso_laws.proofs.Others.{step-same, met, choice-avoids, choice-after}
use Rattle.tso_laws.proofs.Beside.{waits-when}

-- while a store to the location is pending, a load gets no value of memory there
forwards : (l : ℕ) (es : List Entry) (v w i : ℕ) (e : Entry) → slice_get es i ≡ Some e → writes_to l e ≡ true
    → last_value (filter (writes_to l) es) v ≡ last_value (filter (writes_to l) es) w
forwards l [] v w i e q h = absurd (let z : ⊥ = cc in z)
forwards l (x ∷ xs) v w zero e q h = first (writes_to l x) (let z : x ≡ e = cc in ap (writes_to l) z ∙ h)
  where
    first : (b : Bool)
        → b ≡ true
        → last_value (if b then x ∷ filter (writes_to l) xs else filter (writes_to l) xs) v
        ≡ last_value (if b then x ∷ filter (writes_to l) xs else filter (writes_to l) xs) w
    first true q = refl
    first false q = absurd (let z : ⊥ = cc in z)
forwards l (x ∷ xs) v w (suc i) e q h = later (writes_to l x) (forwards l xs v w i e q h)
  where
    later : (b : Bool) → last_value (filter (writes_to l) xs) v ≡ last_value (filter (writes_to l) xs) w
        → last_value (if b then x ∷ filter (writes_to l) xs else filter (writes_to l) xs) v
        ≡ last_value (if b then x ∷ filter (writes_to l) xs else filter (writes_to l) xs) w
    later true q = refl
    later false q = q

-- a core with a store pending has something pending
pub pending-some : (l : ℕ) (s : CoreState) → HasPending l s → (p : Entry) × (ps : List Entry) × (s.pending ≡ p ∷ ps)
pending-some l s h = go s.pending refl
  where
    go : (xs : List Entry) → s.pending ≡ xs → (p : Entry) × (ps : List Entry) × (s.pending ≡ p ∷ ps)
    go [] q = absurd (let r = ap (λ z. slice_get z h.0) q in let k = h.2 in let z : ⊥ = cc in z)
    go (p ∷ ps) q = (p, ps, q)

get-front : (xs : List Entry) (y : Entry) (i : ℕ) (e : Entry) → slice_get xs i ≡ Some e → slice_get (xs ++ y ∷ []) i ≡ Some e
get-front [] y i e q = absurd (let z : ⊥ = cc in z)
get-front (x ∷ xs) y zero e q = q
get-front (x ∷ xs) y (suc i) e q = get-front xs y i e q

-- it writes elsewhere, and, where loads count, does the same whatever the word there
pub record Passes (loads : Bool) (l d : ℕ) (t : Litmus) (s : State) (c : Choice) : Type 0 where
  pub writes : NotAt l (effect_of t d s c).commits
  pub reads : loads ≡ true → (z : State) → core_of z (chosen c) ≡ core_of s (chosen c)
      → ((m : ℕ) → m ≢ l → slice_index z.memory m ≡ slice_index s.memory m) → effect_of t d z c ≡ effect_of t d s c

-- a step while a store to the location is pending
module _ (l d k : ℕ) (s : CoreState) (h : HasPending l s) where
  silent-by : (memory : List ℕ) (a : Action) → 0 < d → NotAt l (effect_by d memory k a s).commits
  silent-by memory (Store loc operand) b = by-room d b
    where
      by-room : (d : ℕ) → 0 < d → NotAt l (effect_by d memory k (Store loc operand) s).commits
      by-room zero b = absurd (omega (arith, b))
      by-room (suc n) b = go (nat_lt (length s.pending) (suc n))
        where
          go : (b : Bool) → NotAt l (if b then buffered s (entry k s.place W loc (value_of s.registers operand)) else stalled stall.Full s).commits
          go true = tt
          go false = tt
  silent-by memory (Load reg loc) b = ((λ w. absurd (let z : ⊥ = cc in z)), tt)
  silent-by memory (Move change) b = tt
  silent-by memory Fence b = by-wait (λ f. NotAt l f.commits) stall.Fence s _ (λ none. ((λ w. absurd (let z : ⊥ = cc in z)), tt)) tt
  silent-by memory (Lock loc reg update) b =
      by-wait (λ f. NotAt l f.commits) stall.Lock s _ (λ none. absurd (let r = pending-some l s h in let q = r.2 in let z : ⊥ = cc in z)) tt

  same-by : (memory other : List ℕ) (a : Action)
      → ((m : ℕ) → m ≢ l → slice_index memory m ≡ slice_index other m)
      → effect_by d memory k a s ≡ effect_by d other k a s
  same-by memory other (Store loc operand) f = refl
  same-by memory other (Load reg loc) f = ap (λ v. loaded s reg (entry k s.place R loc v)) (elim (decide loc.0 l) [
    | inl q ↦
        subst (λ n.
        last_value (filter (writes_to n) s.pending) (slice_index memory n)
        ≡ last_value (filter (writes_to n) s.pending) (slice_index other n))
        (sym q)
        (forwards l s.pending (slice_index memory l) (slice_index other l) h.0 h.1 h.2 h.3)
    | inr n ↦ ap (λ w. last_value (filter (writes_to loc.0) s.pending) w) (f loc.0 n)
  ])
  same-by memory other (Move change) f = refl
  same-by memory other Fence f = refl
  same-by memory other (Lock loc reg update) f =
      let r = pending-some l s h in waits-when stall.Lock s _ r.0 r.1 r.2 ∙ sym (waits-when stall.Lock s _ r.0 r.1 r.2)

  -- and the store stays pending
  stays-by : (memory : List ℕ) (a : Action) → 0 < d → HasPending l (effect_by d memory k a s).after
  stays-by memory (Store loc operand) b = by-room d b
    where
      by-room : (d : ℕ) → 0 < d → HasPending l (effect_by d memory k (Store loc operand) s).after
      by-room zero b = absurd (omega (arith, b))
      by-room (suc n) b = go (nat_lt (length s.pending) (suc n))
        where
          go : (b : Bool) → HasPending l (if b then buffered s (entry k s.place W loc (value_of s.registers operand)) else stalled stall.Full s).after
          go true = (h.0, h.1, get-front s.pending _ h.0 h.1 h.2, h.3)
          go false = h
  stays-by memory (Load reg loc) b = h
  stays-by memory (Move change) b = h
  stays-by memory Fence b = by-wait (λ f. HasPending l f.after) stall.Fence s _ (λ none. h) h
  stays-by memory (Lock loc reg update) b = by-wait (λ f. HasPending l f.after) stall.Lock s _ (λ none. h) h

-- ---- a choice outside the set

module _ (loads : Bool) (l d : ℕ) (t : Litmus) (set : ChoiceSet) (s : State) where
  -- the core that it is of is held
  abbrev Held : ℕ → CoreState → Type 0
  Held k r = IsHeldBack d loads l (program_of t k) r (has_step set k) (has_drain set k)

  none-drained : (k : ℕ) (r : CoreState) → HasNonePending l r → HasNonePending l (drain_of r).after
  none-drained k r h = by-drain (λ f. HasNonePending l f.after) r h (λ x xs q i e at. h (suc i) e (ap (λ z. slice_get z (suc i)) q ∙ at))

  none-written : (r : CoreState) → HasNonePending l r → NotAt l (drain_of r).commits
  none-written r h = by-drain (λ f. NotAt l f.commits) r tt (λ x xs q. ((λ w. h 0 x (ap (λ z. slice_get z 0) q)), tt))

  away-passes : (c : Choice) → Avoids loads l (program_of t (chosen c)) (core_of s (chosen c)) → Passes loads l d t s c
  away-passes c v = record { writes = choice-avoids loads l d t s c v; reads = λ all z q f. go c v all z q f }
    where
      go : (c : Choice)
          → Avoids loads l (program_of t (chosen c)) (core_of s (chosen c))
          → loads ≡ true
          → (z : State) → core_of z (chosen c) ≡ core_of s (chosen c)
          → ((m : ℕ) → m ≢ l → slice_index z.memory m ≡ slice_index s.memory m) → effect_of t d z c ≡ effect_of t d s c
      go (Drain j) v all z q f = ap drain_of q
      go (Step j) v all z q f = step-same d j.0 z.memory s.memory (program_of t j.0) (core_of s j.0) (core_of z j.0) q
          (λ x at. met (action_of x) l _ _ (subst (λ b. meets b l (action_of x) ≡ false) all (v.coming (core_of s j.0).place x (omega arith) at)) f)

  pending-passes : (j : ℕ) → 0 < d → HasPending l (core_of s j) → Passes loads l d t s (step j)
  pending-passes j b h = record {
    writes = writes (slice_get (program_of t j) (core_of s j).place);
    reads = λ all z q f.
        ap (λ r. step_of d z.memory j (slice_get (program_of t j) r.place) r) q
        ∙ reads z.memory f (slice_get (program_of t j) (core_of s j).place);
  }
    where
      writes : (i : Option Instr) → NotAt l (step_of d s.memory j i (core_of s j)).commits
      writes None = tt
      writes (Some x) = silent-by l d j (core_of s j) h s.memory (action_of x) b

      reads : (memory : List ℕ) → ((m : ℕ) → m ≢ l → slice_index memory m ≡ slice_index s.memory m) → (i : Option Instr)
          → step_of d memory j i (core_of s j) ≡ step_of d s.memory j i (core_of s j)
      reads memory f None = refl
      reads memory f (Some x) = same-by l d j (core_of s j) h memory s.memory (action_of x) f

  pub held-passes : (c : Choice) → has_choice set c ≡ false → Held (chosen c) (core_of s (chosen c)) → Passes loads l d t s c
  held-passes c n (away v) = away-passes c v
  held-passes (Step j) n (by_drain b h q) = pending-passes j.0 b h
  held-passes (Drain j) n (by_drain b h q) = absurd (let z : ⊥ = cc in z)
  held-passes (Step j) n (by_step h q) = absurd (let z : ⊥ = cc in z)
  held-passes (Drain j) n (by_step h q) = record { writes = none-written (core_of s j.0) h; reads = λ all z q f. ap drain_of q }

  -- and it stays held
  pub held-after : (c : Choice) → has_choice set c ≡ false → Held (chosen c) (core_of s (chosen c)) → Held (chosen c) (effect_of t d s c).after
  held-after c n (away v) = away (choice-after loads l d t s c v)
  held-after (Step j) n (by_drain b h q) = by_drain b (go (slice_get (program_of t j.0) (core_of s j.0).place)) q
    where
      go : (i : Option Instr) → HasPending l (step_of d s.memory j.0 i (core_of s j.0)).after
      go None = h
      go (Some x) = stays-by l d j.0 (core_of s j.0) h s.memory (action_of x) b
  held-after (Drain j) n (by_drain b h q) = absurd (let z : ⊥ = cc in z)
  held-after (Step j) n (by_step h q) = absurd (let z : ⊥ = cc in z)
  held-after (Drain j) n (by_step h q) = by_step (none-drained j.0 (core_of s j.0) h) q
