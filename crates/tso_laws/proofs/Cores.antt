-- The cores of a state: what an effect of one leaves of each, and when they are done.
use Rattle.tso_laws.proofs.BusVocabulary.{◌≡◌, ◌≢◌, ◌<◌, ℕ, List, [], ◌∷◌, Bool, true, false, length, slice_get, slice_set, slice_index}
use Rattle.tso_laws.proofs.BusVocabulary.{None, arith, ap, sym, ◌∙◌, refl, ◌⊎◌, inl, inr, ◌==◌, if◌then◌else◌, get_or-set_same}
use Rattle.tso_laws.proofs.BusVocabulary.{get_or-set_other, get_or_past, set-get_or, slice_get_past, nat_tests, length-set, is_write}
use Rattle.tso_laws.proofs.BusVocabulary.{is_none_pending, CoreState, State, Effect, idle, core_of, memory_after, applied, is_done, Instr}
use Rattle.tso_laws.proofs.BusVocabulary.{Entry, Outcome, decide, lt-or, test-true, and-left, and-right, Each}

-- after an effect of a core, each core is as before, or is that one
pub core-cases : (state : State) (c k : ℕ) (f : Effect)
    → ((k ≡ c) × (c < length state.cores) × (core_of (applied state c f) k ≡ f.after))
    ⊎ (core_of (applied state c f) k ≡ core_of state k)
core-cases state c k f = elim (decide k c) [
  | inl q ↦ elim (lt-or (length state.cores) c) [
    | inl l ↦ inl (q, l, rw q (get_or-set_same state.cores c f.after idle l))
    | inr l ↦
        inr (rw q (get_or_past (slice_set state.cores c f.after) c idle (rw (length-set state.cores c f.after) l)
        ∙ sym (get_or_past state.cores c idle l)))
  ]
  | inr n ↦ inr (get_or-set_other state.cores c k f.after idle n)
]

-- an effect that changes nothing and commits nothing
abbrev pub quiet : Outcome → CoreState → Effect
quiet o s = record { outcome = o; after = s; commits = [] }

pub quiet-same : (state : State) (c : ℕ) (o : Outcome) → applied state c (quiet o (core_of state c)) ≡ state
quiet-same state c o = ap (λ z. record { memory = state.memory; cores = z }) (set-get_or state.cores c idle)

-- a word to which nothing is written stays
pub memory-kept : (es : List Entry) (memory : List ℕ) (l : ℕ)
    → Each (λ e. is_write e ≡ true → l ≢ e.loc.0) es
    → slice_index (memory_after es memory) l ≡ slice_index memory l
memory-kept [] memory l h = refl
memory-kept (e ∷ es) memory l h = memory-kept es (if is_write e then slice_set memory e.loc.0 e.value else memory) l h.1 ∙ first (is_write e) refl
  where
    first : (b : Bool) → is_write e ≡ b → slice_index (if b then slice_set memory e.loc.0 e.value else memory) l ≡ slice_index memory l
    first true q = get_or-set_other memory e.loc.0 l e.value 0 (h.0 q)
    first false q = refl

-- ---- cores that are done

pub done-now : (p : List Instr) (s : CoreState) → length p ≡ s.place → length s.pending ≡ 0 → is_done p s ≡ true
done-now p s a m = rw (test-true (length p) s.place a) (none s.pending m)
  where
    none : (q : List Entry) → length q ≡ 0 → is_none_pending q ≡ true
    none [] h = refl
    none (y ∷ ys) h = absurd (omega arith)

pub done-pending : (p : List Instr) (s : CoreState) → is_done p s ≡ true → s.pending ≡ []
done-pending p s h = none s.pending (and-right (length p == s.place) (is_none_pending s.pending) h)
  where
    none : (q : List Entry) → is_none_pending q ≡ true → q ≡ []
    none [] h = refl
    none (y ∷ ys) h = absurd (let z : ⊥ = cc in z)

pub done-next : (p : List Instr) (s : CoreState) → is_done p s ≡ true → slice_get p s.place ≡ None
done-next p s h =
    let m = and-left (length p == s.place) (is_none_pending s.pending) h in
    let l : length p ≡ s.place = grind (arith, nat_tests) in
    slice_get_past p s.place (omega arith)
