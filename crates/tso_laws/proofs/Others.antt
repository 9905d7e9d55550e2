-- An eager choice of one core beside a choice of another.
use Rattle.tso_laws.proofs.EagerVocabulary.{◌≡◌, ◌≢◌, ◌<◌, ℕ, zero, suc, List, [], ◌∷◌, Bool, true, false, Option, Some, None, length}
use Rattle.tso_laws.proofs.EagerVocabulary.{slice_get, slice_index, arith, ap, sym, ◌∙◌, refl, subst, inl, inr, nat_lt, if◌then◌else◌}
use Rattle.tso_laws.proofs.EagerVocabulary.{get_or-set_same, get_or-set_other, filter, action_of, Litmus, last_value, writes_to, entry}
use Rattle.tso_laws.proofs.EagerVocabulary.{value_in, value_of, updated, CoreState, State, idle, program_of, core_of, effect_by, step_of}
use Rattle.tso_laws.proofs.EagerVocabulary.{drain_of, effect_of, chosen, memory_after, applied, after_choice, loaded, locked, stalled, R, W}
use Rattle.tso_laws.proofs.EagerVocabulary.{Instr, Action, Store, Load, Move, Fence, Lock, Entry, Choice, Step, Drain, decide, meets}
use Rattle.tso_laws.proofs.EagerVocabulary.{Avoids, OthersAvoid, IsEagerBy, IsEager}
use Rattle.tso_terms.specs.declared.choice.Stall.TheVariants as stall
use Rattle.tso_laws.proofs.Places.{set-set-other, Silent, Only, NotAt, silent-same, elsewhere, only-elsewhere, commute}
use Rattle.tso_laws.proofs.Avoiding.{differ, buffered, by-wait, by-drain, step-avoids, drain-avoids, step-after, drain-after}
use Rattle.tso_laws.proofs.Waits.{Commutes}

-- memory is the same where the action reads it
abbrev pub SameFor : List ℕ → List ℕ → Action → Type 0
SameFor memory other (Load reg loc) = slice_index memory loc.0 ≡ slice_index other loc.0
SameFor memory other (Lock loc reg update) = slice_index memory loc.0 ≡ slice_index other loc.0
SameFor memory other _ = Unit {0}

pub action-same : (d core : ℕ) (memory other : List ℕ) (a : Action) (s : CoreState)
    → SameFor memory other a
    → effect_by d memory core a s ≡ effect_by d other core a s
action-same d core memory other (Load reg loc) s h =
    ap (λ w. loaded s reg (entry core s.place R loc (last_value (filter (writes_to loc.0) s.pending) w))) h
action-same d core memory other (Lock loc reg update) s h = ap (λ w. locked core s loc reg w (updated update s.registers w)) h
action-same d core memory other _ s h = refl

pub step-same : (d core : ℕ) (memory other : List ℕ) (p : List Instr) (s r : CoreState) → r ≡ s
    → ((x : Instr) → slice_get p s.place ≡ Some x → SameFor memory other (action_of x))
    → step_of d memory core (slice_get p r.place) r ≡ step_of d other core (slice_get p s.place) s
step-same d core memory other p s r q h = ap (λ z. step_of d memory core (slice_get p z.place) z) q ∙ go (slice_get p s.place) h
  where
    go : (i : Option Instr) → ((x : Instr) → i ≡ Some x → SameFor memory other (action_of x)) → step_of d memory core i s ≡ step_of d other core i s
    go None h = refl
    go (Some x) h = action-same d core memory other (action_of x) s (h x refl)

-- what a choice of core j writes is elsewhere
pub choice-avoids : (loads : Bool) (l d : ℕ) (t : Litmus) (s : State) (c : Choice)
    → Avoids loads l (program_of t (chosen c)) (core_of s (chosen c))
    → NotAt l (effect_of t d s c).commits
choice-avoids loads l d t s (Step j) v = step-avoids loads l d j.0 s.memory (program_of t j.0) (core_of s j.0) v
choice-avoids loads l d t s (Drain j) v = drain-avoids loads l (program_of t j.0) (core_of s j.0) v

pub choice-after : (loads : Bool) (l d : ℕ) (t : Litmus) (s : State) (c : Choice) → Avoids loads l (program_of t (chosen c)) (core_of s (chosen c))
    → Avoids loads l (program_of t (chosen c)) (effect_of t d s c).after
choice-after loads l d t s (Step j) v = step-after loads l d j.0 s.memory (program_of t j.0) (core_of s j.0) v
choice-after loads l d t s (Drain j) v = drain-after loads l (program_of t j.0) (core_of s j.0) v

-- another core's choice leaves the others avoiding what they avoid
others-after : (loads : Bool) (l d : ℕ) (t : Litmus) (s : State) (k : ℕ) (c : Choice)
    → chosen c < length s.cores
    → OthersAvoid loads l t s k
    → OthersAvoid loads l t (after_choice t d s c) k
others-after loads l d t s k c m h i n = elim (decide i (chosen c)) [
  | inl q ↦ subst (λ z. Avoids loads l (program_of t z) (core_of (after_choice t d s c) z)) (sym q)
      (subst (λ z. Avoids loads l (program_of t (chosen c)) z) (sym (get_or-set_same s.cores (chosen c) (effect_of t d s c).after idle m))
      (choice-after loads l d t s c (subst (λ z. Avoids loads l (program_of t z) (core_of s z)) q (h i n))))
  | inr o ↦ subst (λ z. Avoids loads l (program_of t i) z) (sym (get_or-set_other s.cores (chosen c) i (effect_of t d s c).after idle o)) (h i n)
]

-- a core that a choice isn't of stays
pub core-stays : (d : ℕ) (t : Litmus) (s : State) (k : ℕ) (c : Choice) → chosen c ≢ k → core_of (after_choice t d s c) k ≡ core_of s k
core-stays d t s k c n = get_or-set_other s.cores (chosen c) k (effect_of t d s c).after idle (λ q. n (sym q))

-- the entries of the effect are silent, or at one location that no other core meets any more
pub data Zone (t : Litmus) (s : State) (k : ℕ) (es : List Entry) : Type 0 where
  silent : Silent es → Zone t s k es
  only : (l : ℕ) → Only l es → OthersAvoid true l t s k → Zone t s k es

zone-step : (d : ℕ) (t : Litmus) (s : State) (k : ℕ) (a : Action) → IsEagerBy d t s k a → Zone t s k (effect_by d s.memory k a (core_of s k)).commits
zone-step zero t s k (Store loc operand) h = absurd (let z : ⊥ = omega (arith, h) in z)
zone-step (suc d) t s k (Store loc operand) h = silent (buffers (nat_lt (length (core_of s k).pending) (suc d)))
  where
    buffers : (b : Bool)
        → Silent (if b
        then buffered (core_of s k) (entry k (core_of s k).place W loc (value_of (core_of s k).registers operand))
        else stalled stall.Full (core_of s k)).commits
    buffers true = tt
    buffers false = tt
zone-step d t s k (Load reg loc) h = silent (refl, tt)
zone-step d t s k (Move change) h = silent tt
zone-step d t s k Fence h = silent (by-wait (λ f. Silent f.commits) stall.Fence (core_of s k) _ (λ none. (refl, tt)) tt)
zone-step d t s k (Lock loc reg update) h =
    only loc.0 (by-wait (λ f. Only loc.0 f.commits) stall.Lock (core_of s k) _ (λ none. ((λ w. refl), ((λ w. refl), tt))) tt) h.1

pub zone : (d : ℕ) (t : Litmus) (s : State) (e : Choice) → IsEager d t s e → Zone t s (chosen e) (effect_of t d s e).commits
zone d t s (Step k) h =
    subst (λ i. Zone t s k.0 (step_of d s.memory k.0 i (core_of s k.0)).commits) (sym h.stands) (zone-step d t s k.0 (action_of h.next) h.eager)
zone d t s (Drain k) h =
    by-drain (λ f. Zone t s k.0 f.commits) (core_of s k.0) (silent tt)
    (λ x xs q. only x.loc.0 ((λ w. refl), tt) (let z : h.oldest ≡ x = cc in subst (λ y. OthersAvoid true y.loc.0 t s k.0) z h.others))

-- ---- the other core's choice does the same after the eager one

pub met : (a : Action) (l : ℕ) (memory other : List ℕ)
    → meets true l a ≡ false
    → ((m : ℕ) → m ≢ l → slice_index memory m ≡ slice_index other m)
    → SameFor memory other a
met (Load reg loc) l memory other h f = f loc.0 (differ loc.0 l h)
met (Lock loc reg update) l memory other h f = f loc.0 (differ loc.0 l h)
met _ l memory other h f = tt

pub same-all : (a : Action) (memory other : List ℕ) → memory ≡ other → SameFor memory other a
same-all (Load reg loc) memory other q = ap (λ z. slice_index z loc.0) q
same-all (Lock loc reg update) memory other q = ap (λ z. slice_index z loc.0) q
same-all _ memory other q = tt

pub other-same : (d : ℕ) (t : Litmus) (s : State) (e c : Choice) → chosen c ≢ chosen e → Zone t s (chosen e) (effect_of t d s e).commits
    → effect_of t d (after_choice t d s e) c ≡ effect_of t d s c
other-same d t s e (Drain j) n w = ap drain_of (core-stays d t s j.0 e (λ q. n (sym q)))
other-same d t s e (Step j) n w =
    step-same d j.0 (after_choice t d s e).memory s.memory (program_of t j.0) (core_of s j.0)
    (core_of (after_choice t d s e) j.0) (core-stays d t s j.0 e (λ q. n (sym q)))
    (λ x q. go x q w)
  where
    go : (x : Instr) → slice_get (program_of t j.0) (core_of s j.0).place ≡ Some x → Zone t s (chosen e) (effect_of t d s e).commits
        → SameFor (after_choice t d s e).memory s.memory (action_of x)
    go x q (silent h) = same-all (action_of x) _ _ (silent-same (effect_of t d s e).commits s.memory h)
    go x q (only l h o) = met (action_of x) l _ _ ((o j.0 n).coming (core_of s j.0).place x (omega arith) q)
        (λ m k. elsewhere m (effect_of t d s e).commits s.memory (only-elsewhere l m (effect_of t d s e).commits k h))

-- ---- and the eager one after it

read-kept : (d : ℕ) (t : Litmus) (s : State) (c : Choice) (k : ℕ) (loads : Bool) (l : ℕ) → chosen c ≢ k → OthersAvoid loads l t s k
    → slice_index (after_choice t d s c).memory l ≡ slice_index s.memory l
read-kept d t s c k loads l n o = elsewhere l (effect_of t d s c).commits s.memory (choice-avoids loads l d t s c (o (chosen c) n))

eager-reads : (d : ℕ) (t : Litmus) (s : State) (c : Choice) (k : ℕ) (a : Action)
    → chosen c ≢ k
    → IsEagerBy d t s k a
    → SameFor (after_choice t d s c).memory s.memory a
eager-reads d t s c k (Load reg loc) n h = read-kept d t s c k false loc.0 n h
eager-reads d t s c k (Lock loc reg update) n h = read-kept d t s c k true loc.0 n h.1
eager-reads d t s c k _ n h = tt

pub eager-same : (d : ℕ) (t : Litmus) (s : State) (e c : Choice)
    → chosen c ≢ chosen e
    → IsEager d t s e
    → effect_of t d (after_choice t d s c) e ≡ effect_of t d s e
eager-same d t s (Drain k) c n h = ap drain_of (core-stays d t s k.0 c n)
eager-same d t s (Step k) c n h =
    step-same d k.0 (after_choice t d s c).memory s.memory (program_of t k.0) (core_of s k.0) (core_of (after_choice t d s c) k.0) (core-stays d t s k.0 c n)
    (λ x q. let z : h.next ≡ x = let r = h.stands in
    cc in
    subst (λ y. SameFor (after_choice t d s c).memory s.memory (action_of y)) z (eager-reads d t s c k.0 (action_of h.next) n h.eager))

eager-stays : (d : ℕ) (t : Litmus) (s : State) (c : Choice) (k : ℕ) (a : Action)
    → chosen c ≢ k
    → chosen c < length s.cores
    → IsEagerBy d t s k a
    → IsEagerBy d t (after_choice t d s c) k a
eager-stays d t s c k (Store loc operand) n m h = subst (λ z. length z.pending < d) (sym (core-stays d t s k c n)) h
eager-stays d t s c k (Load reg loc) n m h = others-after false loc.0 d t s k c m h
eager-stays d t s c k (Move change) n m h = tt
eager-stays d t s c k Fence n m h = subst (λ z. z.pending ≡ []) (sym (core-stays d t s k c n)) h
eager-stays d t s c k (Lock loc reg update) n m h = (subst (λ z. z.pending ≡ []) (sym (core-stays d t s k c n)) h.0, others-after true loc.0 d t s k c m h.1)

still-eager : (d : ℕ) (t : Litmus) (s : State) (e c : Choice)
    → chosen c ≢ chosen e
    → chosen c < length s.cores
    → IsEager d t s e
    → IsEager d t (after_choice t d s c) e
still-eager d t s (Drain k) c n m h = record {
  oldest = h.oldest;
  later = h.later;
  pending = subst (λ z. z.pending ≡ h.oldest ∷ h.later) (sym (core-stays d t s k.0 c n)) h.pending;
  others = others-after true h.oldest.loc.0 d t s k.0 c m h.others;
  buffered = h.buffered;
}
still-eager d t s (Step k) c n m h = record {
  next = h.next;
  stands = subst (λ z. slice_get (program_of t k.0) z.place ≡ Some h.next) (sym (core-stays d t s k.0 c n)) h.stands;
  eager = eager-stays d t s c k.0 (action_of h.next) n m h.eager;
}

memory-either : (d : ℕ) (t : Litmus) (s : State) (e c : Choice) → chosen c ≢ chosen e → Zone t s (chosen e) (effect_of t d s e).commits
    → memory_after (effect_of t d s e).commits (memory_after (effect_of t d s c).commits s.memory)
    ≡ memory_after (effect_of t d s c).commits (memory_after (effect_of t d s e).commits s.memory)
memory-either d t s e c n (silent h) =
    silent-same (effect_of t d s e).commits _ h ∙ sym (ap (memory_after (effect_of t d s c).commits) (silent-same (effect_of t d s e).commits s.memory h))
memory-either d t s e c n (only l h o) =
    commute l (effect_of t d s e).commits (effect_of t d s c).commits s.memory h (choice-avoids true l d t s c (o (chosen c) n))

pub of-others : (d : ℕ) (t : Litmus) (s : State) (e c : Choice) → chosen c ≢ chosen e → chosen c < length s.cores → IsEager d t s e → Commutes d t s e c
of-others d t s e c n m h =
    let w = zone d t s e h in
    record {
      eager = still-eager d t s e c n m h;
      same = ap (λ f. applied (after_choice t d s c) (chosen e) f) (eager-same d t s e c n h)
          ∙ state-is _ _ _ _ (memory-either d t s e c n w) (set-set-other s.cores (chosen c) (chosen e) (effect_of t d s c).after (effect_of t d s e).after n)
          ∙ sym (ap (λ f. applied (after_choice t d s e) (chosen c) f) (other-same d t s e c n w));
    }
  where
    state-is : (m n : List ℕ) (cs ds : List CoreState)
        → m ≡ n
        → cs ≡ ds
        → record { memory = m; cores = cs } ≡ (let z : State = record { memory = n; cores = ds } in z)
    state-is m n cs ds p q = rw (p, q) refl
