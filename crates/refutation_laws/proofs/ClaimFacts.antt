-- What a claim can be, where this much is known: no state of an agreeing candidate gives it another truth.
use Rattle.refutation_laws.proofs.Vocabulary.{◌≡◌, ◌<◌, ℕ, zero, suc, ◌+◌, ◌==◌, ◌&&◌, ◌||◌, Bool, true, false, not, if◌then◌else◌, List}
use Rattle.refutation_laws.proofs.Vocabulary.{[], ◌∷◌, length, Option, Some, None, slice_index, slice_index_or, arith, refl, sym, ap, ◌⊎◌}
use Rattle.refutation_laws.proofs.Vocabulary.{inl, inr, subst, map, filter, list_any, Litmus, entries_of, registers_after, writes_to, Claim}
use Rattle.refutation_laws.proofs.Vocabulary.{TruthClaim, RegClaim, LocClaim, NotClaim, AndClaim, OrClaim, truth_of, NamesExist, Instr}
use Rattle.refutation_laws.proofs.Vocabulary.{Entry, IsIn, IsEarlier, Candidate, events_from, events, last_word, words_left_from}
use Rattle.refutation_laws.proofs.Vocabulary.{words_left, registers_left_from, registers_left, last_in, in-none, in-left, in-right}
use Rattle.refutation_laws.proofs.Vocabulary.{last-is-in, last-last, Precedes, from-precedes, and-both, never-itself, never-back}
use Rattle.refutation_laws.proofs.Vocabulary.{stand-once, location, Sound, Known, bare, events_of, comes_before, left_of}
use Rattle.refutation_laws.proofs.Vocabulary.{known_first_registers, value_among, all_known, value_read, can_be, can_be_last, words_at_end}
use Rattle.refutation_laws.proofs.Vocabulary.{register_at_end, allows, Stands, Agrees}
use Rattle.refutation_laws.proofs.Tests.{and-of, or-first, or-second, any-in, any-holds, any-picked}
use Rattle.refutation_laws.proofs.Standing.{event-in, of-event}
use Rattle.refutation_laws.proofs.Agreeing.{has-co}
use Rattle.refutation_laws.proofs.Knowing.{Tells, Fits, Given, fits-first, tells-in, left-fits, tells-among, known-in, given-known}

-- ---- registers

pub left-at : (given : Entry → Option ℕ) (core : ℕ) (ps : List (List Instr)) (registers reads : List (List ℕ)) (i n : ℕ) → n ≡ core + i
    → i < length ps → Given given (events_from core ps registers reads)
    → Fits (left_of given n 0 (slice_index_or ps i []) (known_first_registers registers n))
    (slice_index_or (registers_left_from core ps registers reads) i [])
left-at given core [] registers reads i n e l g = absurd (omega arith)
left-at given core (p ∷ ps) registers reads zero n e l g =
    let q : core ≡ n = omega (arith, e) in
    subst (λ m. Fits (left_of given m 0 p (known_first_registers registers m))
    (registers_after p (slice_index_or registers core []) (slice_index_or reads core []))) q
    (left-fits given core 0 p (known_first_registers registers core) (slice_index_or registers core []) (slice_index_or reads core [])
    (fits-first (slice_index_or registers core []))
    (λ x i r. g x (in-left (entries_of core 0 p (slice_index_or registers core []) (slice_index_or reads core [])) _ x i) r))
left-at given core (p ∷ ps) registers reads (suc i) n e l g =
    left-at given (core + 1) ps registers reads i n (omega (arith, e)) (omega (arith, l))
    (λ x j r. g x (in-right (entries_of core 0 p (slice_index_or registers core []) (slice_index_or reads core [])) _ x j) r)

-- ---- words

pub words-at : (c : Candidate) (loc : ℕ) (words : List ℕ) (i n : ℕ) → n ≡ loc + i → i < length words
    → slice_index (words_left_from loc words c) i ≡ last_word (c.coherence n) (slice_index words i)
words-at c loc [] i n e l = absurd (omega arith)
words-at c loc (word ∷ words) zero n e l = ap (λ m. last_word (c.coherence m) word) (let q : loc ≡ n = omega (arith, e) in q)
words-at c loc (word ∷ words) (suc i) n e l = words-at c (loc + 1) words i n (omega (arith, e)) (omega (arith, l))

pub record Last (ws : List Entry) (word : ℕ) : Type 0 where
  pub entry : Entry
  pub last : last_in ws ≡ Some entry
  pub value : last_word ws word ≡ entry.value

pub record Empty (ws : List Entry) (word : ℕ) : Type 0 where
  pub empty : ws ≡ []
  pub value : last_word ws word ≡ word

pub ends : (ws : List Entry) (word : ℕ) → Empty ws word ⊎ Last ws word
ends [] word = inl (record { empty = refl; value = refl })
ends (x ∷ []) word = inr (record { entry = x; last = refl; value = refl })
ends (x ∷ (y ∷ ys)) word = elim (ends (y ∷ ys) x.value) [
  | inl e ↦ let q : y ∷ ys ≡ [] = e.empty in let z : ⊥ = cc in absurd z
  | inr l ↦ inr (record { entry = l.entry; last = l.last; value = l.value })
]

-- ---- tests

can : (o : Option ℕ) (n value : ℕ) (b : Bool) → Tells o n → (n == value) ≡ b → can_be value b o ≡ true
can None n value b t h = refl
can (Some v) n value true t h = subst (λ m. (m == value) ≡ true) (sym t) h
can (Some v) n value false t h = ap not (subst (λ m. (m == value) ≡ false) (sym t) h)

-- ---- the state that a candidate leaves

module _ (t : Litmus) (c : Candidate) (d : Sound t c) (k : Known) (h : Agrees t c k) where
  -- the last write in coherence isn't known to be before another one
  not-before : (loc : ℕ) (z : Entry) → IsIn (events t c) z → last_in (c.coherence loc) ≡ Some z → writes_to loc z ≡ true
      → (b : Bool) → list_any (comes_before k (bare z)) (events_of t) ≡ b → not b ≡ true
  not-before loc z i last to false q = refl
  not-before loc z i last to true q =
      let m = any-holds (comes_before k (bare z)) (events_of t) q in
      let o = of-event t c m.entry m.inside in
      let v : Entry = o.entry in
      let s : Stands t c m.entry v = record { inside = o.inside; same = ap bare o.same } in
      let before : IsEarlier (c.coherence loc) z v =
      subst (λ l. IsEarlier (c.coherence l) z v) (location loc z to)
      (has-co t c k h (bare z) m.entry z v m.holds (record { inside = i; same = refl }) s) in
      absurd (clash before (last-last (c.coherence loc) z v last (before.second, before.is_second)))
    where
      clash : {v : Entry} → IsEarlier (c.coherence loc) z v → (v ≡ z) ⊎ Precedes v z (c.coherence loc) → ⊥
      clash {v} p (inl e) =
          never-itself (c.coherence loc) z (stand-once (c.coherence loc) (d.single loc)) (subst (IsEarlier (c.coherence loc) z) e p)
      clash {v} p (inr e) =
          never-back (c.coherence loc) z v (stand-once (c.coherence loc) (d.single loc)) p (from-precedes (c.coherence loc) v z e)

  pub word-allowed : (loc value : ℕ) (b : Bool) → (last_word (c.coherence loc) (slice_index t.words loc) == value) ≡ b
      → list_any (can_be value b) (words_at_end t k loc) ≡ true
  word-allowed loc value b q =
      go (list_any (writes_to loc) (events_of t)) refl (ends (c.coherence loc) (slice_index t.words loc))
    where
      go : (s : Bool) → list_any (writes_to loc) (events_of t) ≡ s
          → Empty (c.coherence loc) (slice_index t.words loc) ⊎ Last (c.coherence loc) (slice_index t.words loc)
          → list_any (can_be value b) (if s then map (value_among (all_known t k)) (filter (can_be_last t k loc) (events_of t))
          else Some (slice_index t.words loc) ∷ []) ≡ true
      go false e (inl none) =
          or-first (can_be value b (Some (slice_index t.words loc))) false
          (can (Some (slice_index t.words loc)) (last_word (c.coherence loc) (slice_index t.words loc)) value b (sym none.value) q)
      go true e (inl none) =
          let m = any-holds (writes_to loc) (events_of t) e in
          let o = of-event t c m.entry m.inside in
          let j = d.candidate.writes loc o.entry o.inside (subst (λ x. writes_to loc x ≡ true) o.same m.holds) in
          absurd (in-none o.entry (subst (λ xs. IsIn xs o.entry) none.empty j))
      go false e (inr l) =
          let i = d.coherent loc l.entry (last-is-in (c.coherence loc) l.entry l.last) in
          let z = any-in (writes_to loc) (events_of t) (bare l.entry) (event-in t c l.entry i.0) i.1 in
          let w : ⊥ = cc in absurd w
      go true e (inr l) =
          let i = d.coherent loc l.entry (last-is-in (c.coherence loc) l.entry l.last) in
          any-picked (can_be value b) (value_among (all_known t k)) (can_be_last t k loc) (events_of t) (bare l.entry)
          (event-in t c l.entry i.0)
          (and-of (writes_to loc (bare l.entry)) _ i.1
          (not-before loc l.entry i.0 l.last i.1 (list_any (comes_before k (bare l.entry)) (events_of t)) refl))
          (can (value_among (all_known t k) (bare l.entry)) l.entry.value value b
          (tells-among t c d (all_known t k) (λ y j. known-in t c d k h (length (events_of t)) y j) (bare l.entry) l.entry
          (record { inside = i.0; same = refl }))
          (subst (λ n. (n == value) ≡ b) l.value q))

  -- a claim can have the truth that it has
  pub claim-allowed : (claim : Claim) → NamesExist (length t.programs) (length t.words) claim → (b : Bool)
      → truth_of (registers_left t c) (words_left t c) claim ≡ b → allows t k claim b ≡ true
  claim-allowed (TruthClaim x) n true q = q
  claim-allowed (TruthClaim x) n false q = ap not q
  claim-allowed (RegClaim core reg value) n b q =
      can (register_at_end t k core reg) _ value b
      (tells-in _ (slice_index_or (registers_left t c) core []) reg
      (left-at (value_read t k) 0 t.programs t.registers c.reads core core (omega arith) n
      (given-known t c d k h (length (events_of t))))) q
  claim-allowed (LocClaim loc value) n b q =
      word-allowed loc value b (subst (λ m. (m == value) ≡ b) (words-at c 0 t.words loc loc (omega arith) n) q)
  claim-allowed (NotClaim inner) n b q = claim-allowed inner n (not b) (turned (truth_of (registers_left t c) (words_left t c) inner) b q)
    where
      turned : (x b : Bool) → not x ≡ b → x ≡ not b
      turned true b q = ap not q
      turned false b q = ap not q
  claim-allowed (AndClaim left right) n true q =
      let m = and-both (truth_of (registers_left t c) (words_left t c) left) _ q in
      both (claim-allowed left n.0 true m.0) (claim-allowed right n.1 true m.1)
    where
      both : {x y : Bool} → x ≡ true → y ≡ true → (x && y) ≡ true
      both {x} {y} p q = subst (λ z. (z && y) ≡ true) (sym p) q
  claim-allowed (AndClaim left right) n false q =
      go (truth_of (registers_left t c) (words_left t c) left) q (λ e. claim-allowed left n.0 false e) (λ e. claim-allowed right n.1 false e)
    where
      go : (x : Bool) → (x && truth_of (registers_left t c) (words_left t c) right) ≡ false → (x ≡ false → allows t k left false ≡ true)
          → (truth_of (registers_left t c) (words_left t c) right ≡ false → allows t k right false ≡ true)
          → (allows t k left false || allows t k right false) ≡ true
      go true q f g = or-second (allows t k left false) _ (g q)
      go false q f g = or-first _ (allows t k right false) (f refl)
  claim-allowed (OrClaim left right) n true q =
      go (truth_of (registers_left t c) (words_left t c) left) q (λ e. claim-allowed left n.0 true e) (λ e. claim-allowed right n.1 true e)
    where
      go : (x : Bool) → (x || truth_of (registers_left t c) (words_left t c) right) ≡ true → (x ≡ true → allows t k left true ≡ true)
          → (truth_of (registers_left t c) (words_left t c) right ≡ true → allows t k right true ≡ true)
          → (allows t k left true || allows t k right true) ≡ true
      go true q f g = or-first _ (allows t k right true) (f refl)
      go false q f g = or-second (allows t k left true) _ (g q)
  claim-allowed (OrClaim left right) n false q =
      go (truth_of (registers_left t c) (words_left t c) left) q (λ e. claim-allowed left n.0 false e) (λ e. claim-allowed right n.1 false e)
    where
      go : (x : Bool) → (x || truth_of (registers_left t c) (words_left t c) right) ≡ false → (x ≡ false → allows t k left false ≡ true)
          → (truth_of (registers_left t c) (words_left t c) right ≡ false → allows t k right false ≡ true)
          → (allows t k left false && allows t k right false) ≡ true
      go true q f g = let z : ⊥ = cc in absurd z
      go false q f g = subst (λ z. (z && allows t k right false) ≡ true) (sym (f refl)) (g q)
