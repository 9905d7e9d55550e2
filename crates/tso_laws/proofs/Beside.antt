-- An eager choice beside any other choice.
use Rattle.tso_laws.proofs.EagerVocabulary.{◌≡◌, ◌<◌, ◌≤◌, ℕ, ◌+◌, zero, suc, List, [], ◌∷◌, Bool, true, false, Option, Some, None, length}
use Rattle.tso_laws.proofs.EagerVocabulary.{slice_get, slice_index_or, arith, ap, sym, ◌∙◌, refl, subst, inl, inr, nat_lt, if◌then◌else◌}
use Rattle.tso_laws.proofs.EagerVocabulary.{get_or-set_same, length-set, nat_tests, action_of, location_of, Litmus, IsWellFormed, KnownLocation}
use Rattle.tso_laws.proofs.EagerVocabulary.{CoreState, State, Effect, idle, program_of, core_of, effect_by, step_of, drain_of, effect_of}
use Rattle.tso_laws.proofs.EagerVocabulary.{chosen, applied, after_choice, started, start, stored, stalled, when_drained, is_none_pending}
use Rattle.tso_laws.proofs.EagerVocabulary.{step, drain, IfSome, Reg, Loc, Instr, Action, Store, Load, Move, Fence, Lock, Entry, Choice}
use Rattle.tso_laws.proofs.EagerVocabulary.{Step, Drain, Stall, decide, lt-or, Avoids, OthersAvoid, IsEagerBy, IsEagerStep, IsEagerDrain}
use Rattle.tso_laws.proofs.EagerVocabulary.{IsEager, IsDead, IsSized, cases_Bool, set-get_or, no-program, no-core, ◌⊎◌}
use Rattle.tso_terms.specs.declared.choice.Stall.TheVariants as stall
use Rattle.tso_laws.proofs.Places.{length-memory}
use Rattle.tso_laws.proofs.Avoiding.{holding}
use Rattle.tso_laws.proofs.Waits.{Beside, itself, stalls, commutes}
use Rattle.tso_laws.proofs.Others.{of-others, core-stays}
use Rattle.tso_laws.proofs.Own.{Goes, drain-is, store-room, either-way, core-drained, front-stepped}

-- ---- stalls

pub acts-when : (why : Stall) (s : CoreState) (f : Effect) → s.pending ≡ [] → when_drained why s f ≡ f
acts-when why s f e = rw e refl

pub waits-when : (why : Stall) (s : CoreState) (f : Effect) (p : Entry) (ps : List Entry) → s.pending ≡ p ∷ ps → when_drained why s f ≡ stalled why s
waits-when why s f p ps e = ap (λ xs. if is_none_pending xs then f else stalled why s) e

pub drain-empty : (s : CoreState) → s.pending ≡ [] → drain_of s ≡ stalled stall.Empty s
drain-empty s q = ap (λ xs. drain_of (holding s xs)) q ∙ sym (ap (λ xs. stalled stall.Empty (holding s xs)) q)

pub store-full : (n : ℕ) (s : CoreState) (e : Entry) → 0 < n → n ≤ length s.pending → stored n s e ≡ stalled stall.Full s
store-full zero s e p l = absurd (let z : ⊥ = omega (arith, p) in z)
store-full (suc n) s e p l = elim (cases_Bool (nat_lt (length s.pending) (suc n))) [
  | inl q ↦ absurd (let z : ⊥ = grind (arith, nat_tests, l, q) in z)
  | inr q ↦ rw q refl
]

pub stall-same : (s : State) (k : ℕ) (f : Effect) (why : Stall) → f ≡ stalled why (core_of s k) → applied s k f ≡ s
stall-same s k f why q = ap (λ g. applied s k g) q ∙ ap (λ cs. record { memory = s.memory; cores = cs }) (set-get_or s.cores k idle)

-- no core, no program
pub no-instr : (p : List Instr) (i : ℕ) → p ≡ [] → slice_get p i ≡ None
no-instr p i q = ap (λ z. slice_get z i) q

pub absent-same : (d : ℕ) (t : Litmus) (s : State) (c : Choice) → length s.cores ≡ length t.programs → length t.programs ≤ chosen c → after_choice t d s c ≡ s
absent-same d t s (Step k) n l =
    stall-same s k.0 (effect_of t d s (step k.0)) stall.Done
    (ap (λ i. step_of d s.memory k.0 i (core_of s k.0)) (no-instr (program_of t k.0) (core_of s k.0).place (no-program t.programs k.0 l)))
absent-same d t s (Drain k) n l =
    let q : core_of s k.0 ≡ idle = no-core s.cores k.0 (omega (arith, n, l)) in
    stall-same s k.0 (effect_of t d s (drain k.0)) stall.Empty (ap drain_of q ∙ sym (ap (stalled stall.Empty) q))

-- an eager choice is of a core that is there
eager-present : (d : ℕ) (t : Litmus) (s : State) (e : Choice) → IsSized t s → IsEager d t s e → chosen e < length s.cores
eager-present d t s e z h = elim (lt-or (length s.cores) (chosen e)) [ inl l ↦ l | inr l ↦ absurd (none e l h) ]
  where
    none : (e : Choice) → length s.cores ≤ chosen e → IsEager d t s e → ⊥
    none (Step k) l h =
        let q = no-instr (program_of t k.0) (core_of s k.0).place (no-program t.programs k.0 (let n = z.cores in omega (arith, n, l))) in
        let r = h.stands in let y : ⊥ = cc in y
    none (Drain k) l h = let q : core_of s k.0 ≡ idle = no-core s.cores k.0 l in let r = ap (λ c. c.pending) q in let w = h.pending in let y : ⊥ = cc in y

-- the state after an eager choice is another one
pub eager-alive : (d : ℕ) (t : Litmus) (s : State) (e : Choice) → IsSized t s → IsEager d t s e → IsDead d t s → ⊥
eager-alive d t s e z h dead = go e h (eager-present d t s e z h) (dead e)
  where
    moved-on : (a : Action) (k : ℕ) → IsEagerBy d t s k a → (effect_by d s.memory k a (core_of s k)).after.place ≡ (core_of s k).place + 1
    moved-on (Store loc operand) k h = ap (λ f. f.after.place) (store-room d (core_of s k) _ h)
    moved-on Fence k h = ap (λ f. f.after.place) (acts-when stall.Fence (core_of s k) _ h)
    moved-on (Lock loc reg update) k h = ap (λ f. f.after.place) (acts-when stall.Lock (core_of s k) _ h.0)
    moved-on _ k h = refl

    go : (e : Choice) → IsEager d t s e → chosen e < length s.cores → after_choice t d s e ≡ s → ⊥
    go (Step k) h l q =
        let f : Effect = effect_of t d s (step k.0) in
        let same : (core_of s k.0).place ≡ f.after.place =
        ap (λ z. (core_of z k.0).place) (sym q) ∙ ap (λ c. c.place) (get_or-set_same s.cores k.0 f.after idle l) in
        let on : f.after.place ≡ (core_of s k.0).place + 1 =
        ap (λ i. (step_of d s.memory k.0 i (core_of s k.0)).after.place) h.stands
        ∙ moved-on (action_of h.next) k.0 h.eager in
        let y : ⊥ = omega (arith, same, on) in y
    go (Drain k) h l q =
        let f : Effect = effect_of t d s (drain k.0) in
        let same : length (core_of s k.0).pending ≡ length f.after.pending =
        ap (λ z. length (core_of z k.0).pending) (sym q)
        ∙ ap (λ c. length c.pending) (get_or-set_same s.cores k.0 f.after idle l) in
        let fewer : length f.after.pending ≡ length h.later = ap (λ z. length z.after.pending) (drain-is (core_of s k.0) h.oldest h.later h.pending) in
        let more : length (core_of s k.0).pending ≡ suc (length h.later) = ap length h.pending in
        let y : ⊥ = omega (arith, same, fewer, more) in y

pub sized-after : (d : ℕ) (t : Litmus) (s : State) (c : Choice) → IsSized t s → IsSized t (after_choice t d s c)
sized-after d t s c z = record {
  words = length-memory (effect_of t d s c).commits s.memory ∙ z.words;
  cores = length-set s.cores (chosen c) (effect_of t d s c).after ∙ z.cores;
}

pub sized-start : (t : Litmus) → IsWellFormed t → IsSized t (start t)
sized-start t test = record { words = test.words_given; cores = go 0 t.programs t.registers }
  where
    go : (c : ℕ) (ps : List (List Instr)) (rs : List (List ℕ)) → length (started c ps rs) ≡ length ps
    go c [] rs = refl
    go c (p ∷ ps) rs = ap suc (go (c + 1) ps rs)

-- ---- another choice of the same core

others-kept : (loads : Bool) (l d : ℕ) (t : Litmus) (s : State) (k : ℕ) (c : Choice)
    → chosen c ≡ k
    → OthersAvoid loads l t s k
    → OthersAvoid loads l t (after_choice t d s c) k
others-kept loads l d t s k c q h j n = subst (λ z. Avoids loads l (program_of t j) z) (sym (core-stays d t s j c (λ y. n (sym y ∙ q)))) (h j n)

-- the test gives the location of each instruction a word
location-known : (t : Litmus) (s : State) (k i : ℕ) (x : Instr)
    → IsWellFormed t
    → IsSized t s
    → k < length t.programs
    → slice_get (program_of t k) i ≡ Some x
    → KnownLocation (length s.memory) x
location-known t s k i x test z l e =
    let w = z.words in
    let r = at (program_of t k) i x e in
    subst (λ n. KnownLocation n x) (sym w) (subst (λ y. KnownLocation (length t.locations) y) r.1 (test.locations_known k [] l i x r.0))
  where
    at : (p : List Instr) (i : ℕ) (x : Instr) → slice_get p i ≡ Some x → (i < length p) × (slice_index_or p i x ≡ x)
    at [] i x e = absurd (let z : ⊥ = cc in z)
    at (y ∷ p) zero x e = (omega arith, let z : y ≡ x = cc in z)
    at (y ∷ p) (suc i) x e = let r = at p i x e in (let l = r.0 in omega arith, r.1)

module _ (d : ℕ) (t : Litmus) (test : IsWellFormed t) (s : State) (sized : IsSized t s) (k : ℕ) (present : k < length s.cores) where
  within : k < length t.programs
  within = let n = sized.cores in omega (arith, n, present)

  -- a load's location has a word
  pub loads : (x : Instr) (reg : Reg) (loc : Loc)
      → slice_get (program_of t k) (core_of s k).place ≡ Some x
      → action_of x ≡ Load reg loc
      → loc.0 < length s.memory
  loads x reg loc at e = subst (λ a. IfSome (location_of a) (λ l. l.0 < length s.memory)) e (location-known t s k (core_of s k).place x test sized within at)

  -- an eager step, and the core's drain
  goes-on : (x : Instr) (a : Action) (p : Entry) (ps : List Entry) → slice_get (program_of t k) (core_of s k).place ≡ Some x → action_of x ≡ a
      → (core_of s k).pending ≡ p ∷ ps → IsEagerBy d t s k a → Goes d s.memory (core_of s k) a
  goes-on x (Store loc operand) p ps at e q w = w
  goes-on x (Load reg loc) p ps at e q w = loads x reg loc at e
  goes-on x (Move change) p ps at e q w = tt
  goes-on x Fence p ps at e q w = let y : ⊥ = cc in y
  goes-on x (Lock loc reg update) p ps at e q w = let v = w.0 in let y : ⊥ = cc in y

  eager-on : (x : Instr) (a : Action) (p : Entry) (ps : List Entry) → core_of (after_choice t d s (drain k)) k ≡ holding (core_of s k) ps
      → (core_of s k).pending ≡ p ∷ ps → IsEagerBy d t s k a → IsEagerBy d t (after_choice t d s (drain k)) k a
  eager-on x (Store loc operand) p ps c q w =
      let n : length (core_of (after_choice t d s (drain k)) k).pending ≡ length ps = ap (λ z. length z.pending) c in
      let m : length (core_of s k).pending ≡ suc (length ps) = ap length q in
      omega (arith, n, m, w)
  eager-on x (Load reg loc) p ps c q w = others-kept false loc.0 d t s k (drain k) refl w
  eager-on x (Move change) p ps c q w = tt
  eager-on x Fence p ps c q w = absurd (let y : ⊥ = cc in y)
  eager-on x (Lock loc reg update) p ps c q w = absurd (let v = w.0 in let y : ⊥ = cc in y)

  pub step-drain : IsEagerStep d t s k → Beside d t s (step k) (drain k)
  step-drain h = go (core_of s k).pending refl
    where
      go : (xs : List Entry) → (core_of s k).pending ≡ xs → Beside d t s (step k) (drain k)
      go [] q = stalls (stall-same s k (effect_of t d s (drain k)) stall.Empty (drain-empty (core_of s k) q))
      go (p ∷ ps) q =
          let g = goes-on h.next (action_of h.next) p ps h.stands refl q h.eager in
          let c = core-drained d t s k h.next p ps present h.stands q g in
          commutes (record {
            eager = record {
              next = h.next;
              stands = subst (λ z. slice_get (program_of t k) z.place ≡ Some h.next) (sym c) h.stands;
              eager = eager-on h.next (action_of h.next) p ps c q h.eager;
            };
            same = either-way d t s k h.next p ps present h.stands q g;
          })

  -- with something pending the core's step stalls, or doesn't wait
  pub stalls-or-goes : (p : Entry) (ps : List Entry) → 0 < d → (core_of s k).pending ≡ p ∷ ps
      → (after_choice t d s (step k) ≡ s)
      ⊎ ((x : Instr)
      × (slice_get (program_of t k) (core_of s k).place ≡ Some x)
      × Goes d s.memory (core_of s k) (action_of x))
  stalls-or-goes p ps buffers q = go (slice_get (program_of t k) (core_of s k).place) refl
    where
      Either : Type 0
      Either =
          (after_choice t d s (step k) ≡ s)
          ⊎ ((x : Instr)
          × (slice_get (program_of t k) (core_of s k).place ≡ Some x)
          × Goes d s.memory (core_of s k) (action_of x))

      stops : (why : Stall) (x : Instr)
          → slice_get (program_of t k) (core_of s k).place ≡ Some x
          → effect_by d s.memory k (action_of x) (core_of s k) ≡ stalled why (core_of s k)
          → Either
      stops why x at e = inl (stall-same s k (effect_of t d s (step k)) why (ap (λ i. step_of d s.memory k i (core_of s k)) at ∙ e))

      passes : (x : Instr) (a : Action) → slice_get (program_of t k) (core_of s k).place ≡ Some x → action_of x ≡ a → Goes d s.memory (core_of s k) a → Either
      passes x a at e g = inr (x, at, subst (λ a. Goes d s.memory (core_of s k) a) (sym e) g)

      by-action : (x : Instr) (a : Action) → slice_get (program_of t k) (core_of s k).place ≡ Some x → action_of x ≡ a → Either
      by-action x (Store loc operand) at e = elim (lt-or d (length (core_of s k).pending)) [
        | inl l ↦ passes x (Store loc operand) at e l
        | inr l ↦ stops stall.Full x at (ap (λ a. effect_by d s.memory k a (core_of s k)) e ∙ store-full d (core_of s k) _ buffers l)
      ]
      by-action x (Load reg loc) at e = passes x (Load reg loc) at e (loads x reg loc at e)
      by-action x (Move change) at e = passes x (Move change) at e tt
      by-action x Fence at e = stops stall.Fence x at (ap (λ a. effect_by d s.memory k a (core_of s k)) e ∙ waits-when stall.Fence (core_of s k) _ p ps q)
      by-action x (Lock loc reg update) at e =
          stops stall.Lock x at (ap (λ a. effect_by d s.memory k a (core_of s k)) e ∙ waits-when stall.Lock (core_of s k) _ p ps q)

      go : (i : Option Instr) → slice_get (program_of t k) (core_of s k).place ≡ i → Either
      go None at = inl (stall-same s k (effect_of t d s (step k)) stall.Done (ap (λ i. step_of d s.memory k i (core_of s k)) at))
      go (Some x) at = by-action x (action_of x) at refl

  -- an eager drain, and the core's step
  pub drain-step : IsEagerDrain d t s k → Beside d t s (drain k) (step k)
  drain-step h = elim (stalls-or-goes h.oldest h.later h.buffered h.pending) [
    | inl q ↦ stalls q
    | inr (x, at, g) ↦
        let r = front-stepped d t s k x h.oldest h.later present at h.pending g in
        commutes (record {
          eager = record {
            oldest = h.oldest;
            later = r.0;
            pending = r.1;
            others = others-kept true h.oldest.loc.0 d t s k (step k) refl h.others;
            buffered = h.buffered;
          };
          same = sym (either-way d t s k x h.oldest h.later present at h.pending g);
        })
  ]

-- an eager choice beside any other
pub beside : (d : ℕ) (t : Litmus) → IsWellFormed t → (s : State) (e c : Choice) → IsSized t s → IsEager d t s e → Beside d t s e c
beside d t test s e c z h = elim (lt-or (length s.cores) (chosen c)) [
  | inl l ↦ elim (decide (chosen c) (chosen e)) [ inl q ↦ own e c q h (eager-present d t s e z h) | inr n ↦ commutes (of-others d t s e c n l h) ]
  | inr l ↦ stalls (absent-same d t s c z.cores (let n = z.cores in omega (arith, n, l)))
]
  where
    own : (e c : Choice) → chosen c ≡ chosen e → IsEager d t s e → chosen e < length s.cores → Beside d t s e c
    own (Step k) (Step j) q h l = itself (ap (λ n. step n) q)
    own (Drain k) (Drain j) q h l = itself (ap (λ n. drain n) q)
    own (Step k) (Drain j) q h l = subst (λ n. Beside d t s (step k.0) (drain n)) (sym q) (step-drain d t test s z k.0 l h)
    own (Drain k) (Step j) q h l = subst (λ n. Beside d t s (drain k.0) (step n)) (sym q) (drain-step d t test s z k.0 l h)
