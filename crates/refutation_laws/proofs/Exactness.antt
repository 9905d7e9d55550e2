-- In a full case with no cycle nothing is open: what a claim can be, it is in the state that the case's candidate leaves.
use Rattle.refutation_laws.proofs.Vocabulary.{◌≡◌, ◌<◌, ◌≤◌, ℕ, zero, suc, ◌+◌, ◌==◌, ◌&&◌, ◌||◌, Bool, true, false, not, if◌then◌else◌}
use Rattle.refutation_laws.proofs.Vocabulary.{List, [], ◌∷◌, length, Option, Some, None, slice_index, slice_index_or, arith, refl, sym, ap}
use Rattle.refutation_laws.proofs.Vocabulary.{◌∙◌, ◌⊎◌, inl, inr, subst, map, filter, list_any, Litmus, value_in, entries_of}
use Rattle.refutation_laws.proofs.Vocabulary.{registers_after, is_write, writes_to, Claim, TruthClaim, RegClaim, LocClaim, NotClaim}
use Rattle.refutation_laws.proofs.Vocabulary.{AndClaim, OrClaim, truth_of, NamesExist, Instr, Entry, IsIn, IsEarlier, Candidate}
use Rattle.refutation_laws.proofs.Vocabulary.{events_from, last_word, registers_left_from, registers_left, words_left, last_in, in-none}
use Rattle.refutation_laws.proofs.Vocabulary.{in-left, in-right, filter-in, last-is-in, last-last, Precedes, from-precedes, and-both}
use Rattle.refutation_laws.proofs.Vocabulary.{or-either, location, Known, bare, events_of, comes_before, known_in, left_of}
use Rattle.refutation_laws.proofs.Vocabulary.{known_first_registers, value_among, all_known, can_be, can_be_last, words_at_end}
use Rattle.refutation_laws.proofs.Vocabulary.{register_at_end, allows, Model, true-or}
use Rattle.refutation_laws.proofs.Tests.{from-not, any-in, picked-of, and-of}
use Rattle.refutation_laws.proofs.Standing.{Of, of-event}
use Rattle.refutation_laws.proofs.ClaimFacts.{words-at, ends, Empty, Last}
use Rattle.refutation_laws.proofs.Determined.{all_of, in-all, AllGiven, left-all-of, length-after, HaveSix, next-six, first-six}
use Rattle.refutation_laws.proofs.Settling.{IsOpen, given_after, rounds, own_reads, own_events, own_candidate, own-in, writes-row, all-given, all-known-values}
use Rattle.refutation_laws.proofs.Allowing.{write-in, co-known}

-- ---- registers

-- all of these registers are known, and they are six
record AreKnown (os : List (Option ℕ)) (ns : List ℕ) : Type 0 where
  known : os ≡ all_of ns
  six : 6 ≤ length ns

left-known : (given : Entry → Option ℕ) (core : ℕ) (ps : List (List Instr)) (registers reads : List (List ℕ)) (i n : ℕ) → n ≡ core + i
    → i < length ps → HaveSix core (length ps) registers → AllGiven given (events_from core ps registers reads)
    → AreKnown (left_of given n 0 (slice_index_or ps i []) (known_first_registers registers n))
    (slice_index_or (registers_left_from core ps registers reads) i [])
left-known given core [] registers reads i n e l six g = absurd (omega arith)
left-known given core (p ∷ ps) registers reads zero n e l six g =
    let q : core ≡ n = omega (arith, e) in
    let s : 6 ≤ length (slice_index_or registers core []) = first-six core p ps registers six in
    let a : length (registers_after p (slice_index_or registers core []) (slice_index_or reads core [])) ≡ length (slice_index_or registers core [])
    = length-after p (slice_index_or registers core []) (slice_index_or reads core []) in
    subst (λ m. AreKnown (left_of given m 0 p (known_first_registers registers m))
    (registers_after p (slice_index_or registers core []) (slice_index_or reads core []))) q
    (record {
      known =
          left-all-of given core 0 p (slice_index_or registers core []) (slice_index_or reads core []) s
          (λ x i r. g x (in-left (entries_of core 0 p (slice_index_or registers core []) (slice_index_or reads core [])) _ x i) r);
      six = omega (arith, s, a);
    })
left-known given core (p ∷ ps) registers reads (suc i) n e l six g =
    left-known given (core + 1) ps registers reads i n (omega (arith, e)) (omega (arith, l)) (next-six core p ps registers six)
    (λ x j r. g x (in-right (entries_of core 0 p (slice_index_or registers core []) (slice_index_or reads core [])) _ x j) r)

-- ---- tests

not-not : (x b : Bool) → x ≡ not b → not x ≡ b
not-not x b q = grind arith

exactly : (o : Option ℕ) (n value : ℕ) (b : Bool) → o ≡ Some n → can_be value b o ≡ true → (n == value) ≡ b
exactly None n value b q h = let z : ⊥ = cc in absurd z
exactly (Some v) n value true q h = let e : v ≡ n = cc in subst (λ m. (m == value) ≡ true) e h
exactly (Some v) n value false q h = let e : v ≡ n = cc in subst (λ m. (m == value) ≡ false) e (from-not (v == value) h)

and-false : (a b : Bool) → (a ≡ false) ⊎ (b ≡ false) → (a && b) ≡ false
and-false a b h = grind arith

both-false : (a b : Bool) → a ≡ false → b ≡ false → (a || b) ≡ false
both-false a b p q = rw p q

only-first : (a : Bool) → (a || false) ≡ true → a ≡ true
only-first a h = grind arith

either-of : {A B C D : Type 0} → (A → C) → (B → D) → A ⊎ B → C ⊎ D
either-of f g (inl a) = inl (f a)
either-of f g (inr b) = inr (g b)

-- ---- the state

module _ (model : Model) (t : Litmus) (k : Known) (o : IsOpen model t k) where
  abbrev es : List Entry
  es = own_events model t k o

  abbrev c : Candidate
  c = own_candidate model t k o

  -- a write that can be the last one is the last one of the coherence order
  is-last : (loc : ℕ) (y z : Entry) → IsIn es y → can_be_last t k loc (bare y) ≡ true → last_in (c.coherence loc) ≡ Some z
      → y ≡ z
  is-last loc y z iy h last = go (last-last (c.coherence loc) z y last iny)
    where
      m : (writes_to loc y ≡ true) × (not (list_any (comes_before k y) (events_of t)) ≡ true)
      m = and-both (writes_to loc y) (not (list_any (comes_before k y) (events_of t))) h

      iny : IsIn (c.coherence loc) y
      iny = (writes-row model t k o loc).inside y (filter-in (writes_to loc) es y iy m.0)

      go : (y ≡ z) ⊎ Precedes y z (c.coherence loc) → y ≡ z
      go (inl e) = e
      go (inr p) =
          let e : IsEarlier (c.coherence loc) y z = from-precedes (c.coherence loc) y z p in
          let at : y.loc.0 ≡ loc = location loc y m.0 in
          let b : comes_before k y z ≡ true = co-known model t k o y z (subst (λ n. IsEarlier (c.coherence n) y z) (sym at) e) in
          let iz = write-in model t k o loc z (e.second, e.is_second) in
          let any : list_any (comes_before k y) (events_of t) ≡ true = any-in (comes_before k y) (events_of t) (bare z) (own-in model t k o z iz.0) b in
          let w : list_any (comes_before k y) (events_of t) ≡ false = from-not (list_any (comes_before k y) (events_of t)) m.1 in
          let f : ⊥ = cc in absurd f

  word-exact : (loc value : ℕ) (b : Bool) → list_any (can_be value b) (words_at_end t k loc) ≡ true
      → (last_word (c.coherence loc) (slice_index t.words loc) == value) ≡ b
  word-exact loc value b h = go (list_any (writes_to loc) (events_of t)) refl (ends (c.coherence loc) (slice_index t.words loc)) h
    where
      go : (s : Bool) → list_any (writes_to loc) (events_of t) ≡ s
          → Empty (c.coherence loc) (slice_index t.words loc) ⊎ Last (c.coherence loc) (slice_index t.words loc)
          → list_any (can_be value b) (if s then map (value_among (all_known t k)) (filter (can_be_last t k loc) (events_of t))
          else Some (slice_index t.words loc) ∷ []) ≡ true
          → (last_word (c.coherence loc) (slice_index t.words loc) == value) ≡ b
      go false e (inl none) g =
          exactly (Some (slice_index t.words loc)) (last_word (c.coherence loc) (slice_index t.words loc)) value b
          (ap (λ n. Some n) (sym none.value)) (only-first (can_be value b (Some (slice_index t.words loc))) g)
      go false e (inr l) g =
          let i = write-in model t k o loc l.entry (last-is-in (c.coherence loc) l.entry l.last) in
          let z = any-in (writes_to loc) (events_of t) (bare l.entry) (own-in model t k o l.entry i.0) i.1 in
          let w : ⊥ = cc in absurd w
      go true e (inl none) g =
          let m = picked-of (can_be value b) (value_among (all_known t k)) (can_be_last t k loc) (events_of t) g in
          let of : Of es m.entry = of-event t c m.entry m.inside in
          let y : Entry = of.entry in
          let to : writes_to loc y ≡ true = subst (λ x. writes_to loc x ≡ true) of.same (and-both (writes_to loc m.entry) _ m.picked).0 in
          let j : IsIn (c.coherence loc) y = (writes-row model t k o loc).inside y (filter-in (writes_to loc) es y of.inside to) in
          absurd (in-none y (subst (λ xs. IsIn xs y) none.empty j))
      go true e (inr l) g =
          let m = picked-of (can_be value b) (value_among (all_known t k)) (can_be_last t k loc) (events_of t) g in
          let of : Of es m.entry = of-event t c m.entry m.inside in
          let y : Entry = of.entry in
          let last : can_be_last t k loc (bare y) ≡ true = subst (λ x. can_be_last t k loc x ≡ true) of.same m.picked in
          let to : writes_to loc y ≡ true = (and-both (writes_to loc y) _ last).0 in
          let w : is_write y ≡ true = (and-both (is_write y) (y.loc.0 == loc) to).0 in
          let same : y ≡ l.entry = is-last loc y l.entry of.inside last l.last in
          let v : last_word (c.coherence loc) (slice_index t.words loc) ≡ y.value = l.value ∙ ap (λ (z : Entry). z.value) (sym same) in
          let k2 : value_among (all_known t k) m.entry ≡ Some y.value =
          ap (λ x. value_among (all_known t k) x) of.same ∙ all-known-values model t k o y of.inside w in
          exactly (value_among (all_known t k) m.entry) (last_word (c.coherence loc) (slice_index t.words loc)) value b
          (k2 ∙ ap (λ n. Some n) (sym v)) m.holds

  -- a claim has the truth that it can have
  pub claim-exact : (claim : Claim) → NamesExist (length t.programs) (length t.words) claim → (b : Bool) → allows t k claim b ≡ true
      → truth_of (registers_left t c) (words_left t c) claim ≡ b
  claim-exact (TruthClaim x) n true h = h
  claim-exact (TruthClaim x) n false h = from-not x h
  claim-exact (RegClaim core reg value) n b h =
      let r =
      left-known (given_after model t k o (rounds model t k o)) 0 t.programs t.registers (own_reads model t k o)
      core core (omega arith) n o.six (all-given model t k o) in
      exactly (register_at_end t k core reg) (value_in (slice_index_or (registers_left t c) core []) reg) value b
      (ap (λ os. known_in os reg) r.known ∙ in-all (slice_index_or (registers_left t c) core []) reg r.six) h
  claim-exact (LocClaim loc value) n b h =
      subst (λ m. (m == value) ≡ b) (sym (words-at c 0 t.words loc loc (omega arith) n)) (word-exact loc value b h)
  claim-exact (NotClaim inner) n b h = not-not (truth_of (registers_left t c) (words_left t c) inner) b (claim-exact inner n (not b) h)
  claim-exact (AndClaim left right) n true h =
      let m = and-both (allows t k left true) (allows t k right true) h in
      and-of _ _ (claim-exact left n.0 true m.0) (claim-exact right n.1 true m.1)
  claim-exact (AndClaim left right) n false h =
      and-false _ _
      (either-of (λ g. claim-exact left n.0 false g) (λ g. claim-exact right n.1 false g) (or-either (allows t k left false) (allows t k right false) h))
  claim-exact (OrClaim left right) n true h =
      true-or _ _
      (either-of (λ g. claim-exact left n.0 true g) (λ g. claim-exact right n.1 true g) (or-either (allows t k left true) (allows t k right true) h))
  claim-exact (OrClaim left right) n false h =
      let m = and-both (allows t k left false) (allows t k right false) h in
      both-false _ _ (claim-exact left n.0 false m.0) (claim-exact right n.1 false m.1)
