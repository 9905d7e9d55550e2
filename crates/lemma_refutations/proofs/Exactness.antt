-- In a full case with no cycle a proposition can have no truth but the one that it has in the state that the case's candidate leaves. So if
-- it is false there, a part of it that is given is.
use Rattle.lemma_refutations.proofs.Vocabulary.{◌≡◌, ◌<◌, ℕ, ◌==◌, ◌&&◌, ◌||◌, Bool, true, false, not, if◌then◌else◌, List, [], ◌∷◌, ◌++◌}
use Rattle.lemma_refutations.proofs.Vocabulary.{length, Some, slice_index, slice_index_or, map, list_any, list_all, arith, refl, sym, ap}
use Rattle.lemma_refutations.proofs.Vocabulary.{◌∙◌, ◌⊎◌, inl, inr, subst, Litmus, Claim, TruthClaim, RegClaim, LocClaim, NotClaim}
use Rattle.lemma_refutations.proofs.Vocabulary.{AndClaim, OrClaim, truth_of, NamesExist, Entry, IsIn, IsEarlier, Candidate, IsAllowed}
use Rattle.lemma_refutations.proofs.Vocabulary.{last_in, registers_left, words_left, value_in, writes_to, is_write, last-is-in, last-last}
use Rattle.lemma_refutations.proofs.Vocabulary.{Precedes, from-precedes, in-filter, and-both, or-either, location, same-number, bare}
use Rattle.lemma_refutations.proofs.Vocabulary.{events_of, same_event, Reg, in-none, Model, Fact, Before, Holds, given_by, Values, can_be}
use Rattle.lemma_refutations.proofs.Vocabulary.{same_number, values_of, values_read, values_written, last_writes, can_be_last}
use Rattle.lemma_refutations.proofs.Vocabulary.{words_possible, register_left, IsPossible, word_in, LastWordsArePossible, Knowledge}
use Rattle.lemma_refutations.proofs.Vocabulary.{known_from, allows, is_impossible}
use Rattle.possible_reads.specs.Possible.{is_counter, counted, is_put_before, is_told_before, kept, both_of, any_of, told_word, may_be_left}
use Rattle.possible_reads.specs.Possible.{fits_last, last_words, can_be_left, least_written}
use Rattle.possible_reads.specs.Facts.{value_facts}
use Rattle.refutation_laws.proofs.Vocabulary.{Known, comes_before, true-or}
use Rattle.refutation_laws.specs.declared.known.Pair.{Pair}
use Rattle.refutation_laws.proofs.Standing.{Of, of-event}
use Rattle.refutation_laws.proofs.Tests.{and-of, or-first, from-not, any-in, clash, pick, pass}
use Rattle.refutation_laws.proofs.ClaimFacts.{words-at, ends, Empty}
use Rattle.refutation_laws.proofs.ClaimFacts as old
use Rattle.refutation_laws.proofs.Settling.{IsOpen, own_events, own_reads, own_candidate, own-in}
use Rattle.refutation_laws.proofs.Allowing.{co-known, write-in}
use Rattle.lemma_refutations.proofs.Lists.{any-picked, any-at, left-at, right-at}
use Rattle.lemma_refutations.proofs.Programs.{related-register}
use Rattle.lemma_refutations.proofs.Single.{AtMost, Exact, exactly-one, most-exact, any-most, most-relates, kept-exact, both-exact}
use Rattle.lemma_refutations.proofs.Covering.{Covers}
use Rattle.lemma_refutations.proofs.Values.{read-most, write-most}

-- ---- tests

number-back : (n value : ℕ) (b : Bool) → same_number b value n ≡ true → (n == value) ≡ b
number-back n value true h = h
number-back n value false h = from-not (n == value) h

not-not : (x b : Bool) → x ≡ not b → not x ≡ b
not-not x b q = grind arith

and-false : (a b : Bool) → (a ≡ false) ⊎ (b ≡ false) → (a && b) ≡ false
and-false a b h = grind arith

both-false : (a b : Bool) → a ≡ false → b ≡ false → (a || b) ≡ false
both-false a b p q = rw p q

either-of : {A B C D : Type 0} → (A → C) → (B → D) → A ⊎ B → C ⊎ D
either-of f g (inl a) = inl (f a)
either-of f g (inr b) = inr (g b)

only-first : (a : Bool) → (a || false) ≡ true → a ≡ true
only-first a h = grind arith

module _ (words : LastWordsArePossible) (model : Model) (t : Litmus) (k : Known) (o : IsOpen model t k)
    (allowed : IsAllowed t (own_candidate model t k o)) (given facts : List Fact) (covers : Covers given k facts) where
  abbrev es : List Entry
  es = own_events model t k o

  abbrev c : Candidate
  c = own_candidate model t k o

  abbrev told : Knowledge
  told = known_from t facts

  -- ---- the last write

  parts : (loc : ℕ) (w : Entry) → can_be_last t facts told.readings loc w ≡ true
      → (writes_to loc w ≡ true) × (not (list_any (is_put_before facts w) (events_of t)) ≡ true)
  parts loc w h =
      let p = and-both _ (can_be_left facts loc (values_written t told.readings w) (least_written t told.readings w)) h in
      let q = and-both _ (not (list_any (is_put_before facts w) (events_of t))) p.0 in
      ((and-both (writes_to loc w) (list_all (fits_last loc w) facts) q.0).0, q.1)

  -- the order of two writes that the case knows is among the facts
  put-before : (y z : Entry) → comes_before k y z ≡ true → is_put_before facts (bare y) (bare z) ≡ true
  put-before y z h =
      let m = any-picked (λ (p : Pair). same_event p.first y && same_event p.second z) k.order h in
      let f = (covers.pairs m.member (m.place, m.stands)).0 in
      or-first (list_any (is_told_before (bare y) (bare z)) facts) _
      (any-at (is_told_before (bare y) (bare z)) facts f.0 (Before m.member.first m.member.second) f.1 m.holds)

  -- a write that is before another one can't be the last
  last-alone : (loc : ℕ) (y z : Entry) → IsIn es y → can_be_last t facts told.readings loc (bare y) ≡ true → last_in (c.coherence loc) ≡ Some z
      → y ≡ z
  last-alone loc y z iy h last = go (last-last (c.coherence loc) z y last (allowed.candidate.writes loc y iy m.0))
    where
      m : (writes_to loc (bare y) ≡ true) × (not (list_any (is_put_before facts (bare y)) (events_of t)) ≡ true)
      m = parts loc (bare y) h

      go : (y ≡ z) ⊎ Precedes y z (c.coherence loc) → y ≡ z
      go (inl e) = e
      go (inr p) =
          let e : IsEarlier (c.coherence loc) y z = from-precedes (c.coherence loc) y z p in
          let at : y.loc.0 ≡ loc = location loc y m.0 in
          let b : comes_before k y z ≡ true = co-known model t k o y z (subst (λ n. IsEarlier (c.coherence n) y z) (sym at) e) in
          let iz = write-in model t k o loc z (e.second, e.is_second) in
          absurd (clash _ (any-in (is_put_before facts (bare y)) (events_of t) (bare z) (own-in model t k o z iz.0) (put-before y z b))
          (from-not (list_any (is_put_before facts (bare y)) (events_of t)) m.1))

  -- ---- words

  counter-most : (loc : ℕ) → is_counter t loc ≡ true → AtMost (word_in t c loc) (last_words t facts told.readings loc)
  counter-most loc q =
      subst (λ vs. AtMost (word_in t c loc) vs) (sym (pick (is_counter t loc) (Some (counted t loc ∷ [])) _ q))
      (subst (λ n. AtMost (word_in t c loc) (Some (n ∷ []))) (sym count) (exactly-one (word_in t c loc)))
    where
      possible : IsPossible (kept (λ w. true) (last_words t [] [] loc)) (word_in t c loc)
      possible = words t c [] 0 loc allowed tt

      alone : can_be (Some (counted t loc ∷ [])) (λ v. v == word_in t c loc) ≡ true
      alone =
          subst (λ vs. IsPossible (kept (λ w. true) vs) (word_in t c loc))
          (pick (is_counter t loc) (Some (counted t loc ∷ [])) _ q) possible

      count : counted t loc ≡ word_in t c loc
      count = same-number (counted t loc) (word_in t c loc) (only-first (counted t loc == word_in t c loc) alone)

  word-exact : (loc : ℕ) → Exact (word_in t c loc) (words_possible t facts told.readings loc)
  word-exact loc =
      kept-exact (word_in t c loc) (may_be_left facts loc) (both_of (told_word facts loc) (last_words t facts told.readings loc))
      (both-exact (word_in t c loc) (told_word facts loc) (last_words t facts told.readings loc)
      (most-exact (word_in t c loc) (last_words t facts told.readings loc) (go (is_counter t loc) refl)))
    where
      written : Values
      written = any_of (map (values_written t told.readings) (last_writes t facts told.readings loc))

      by-end : (b : Bool) → list_any (writes_to loc) (events_of t) ≡ b
          → Empty (c.coherence loc) (slice_index t.words loc) ⊎ old.Last (c.coherence loc) (slice_index t.words loc)
          → AtMost (word_in t c loc) (if b then written else Some (slice_index t.words loc ∷ []))
      by-end false e (inl none) =
          subst (λ n. AtMost n (Some (slice_index t.words loc ∷ []))) (sym none.value) (exactly-one (slice_index t.words loc))
      by-end false e (inr l) =
          let i = write-in model t k o loc l.entry (last-is-in (c.coherence loc) l.entry l.last) in
          absurd (clash _ (any-in (writes_to loc) (events_of t) (bare l.entry) (own-in model t k o l.entry i.0) i.1) e)
      by-end true e (inl none) = any-most _ (values_written t told.readings) (last_writes t facts told.readings loc) (λ i w h.
          let n = in-filter (can_be_last t facts told.readings loc) (events_of t) w (i, h) in
          let of : Of es w = of-event t c w n.0 in
          let to : writes_to loc of.entry ≡ true = subst (λ x. writes_to loc x ≡ true) of.same (parts loc w n.1).0 in
          absurd (in-none of.entry (subst (λ xs. IsIn xs of.entry) none.empty (allowed.candidate.writes loc of.entry of.inside to))))
      by-end true e (inr l) = any-most _ (values_written t told.readings) (last_writes t facts told.readings loc) (λ i w h.
          let n = in-filter (can_be_last t facts told.readings loc) (events_of t) w (i, h) in
          let of : Of es w = of-event t c w n.0 in
          let last : can_be_last t facts told.readings loc (bare of.entry) ≡ true = subst (λ x. can_be_last t facts told.readings loc x ≡ true) of.same n.1 in
          let one : of.entry ≡ l.entry = last-alone loc of.entry l.entry of.inside last l.last in
          let v : word_in t c loc ≡ of.entry.value = l.value ∙ ap (λ (z : Entry). z.value) (sym one) in
          let is-w : is_write of.entry ≡ true = (and-both (is_write of.entry) _ (parts loc (bare of.entry) last).0).0 in
          subst (λ m. AtMost m (values_written t told.readings w)) (sym v)
          (subst (λ x. AtMost of.entry.value (values_written t told.readings x)) (sym of.same)
          (write-most model t k o allowed given facts covers of.entry of.inside is-w)))

      go : (b : Bool) → is_counter t loc ≡ b → AtMost (word_in t c loc) (last_words t facts told.readings loc)
      go true q = counter-most loc q
      go false q =
          subst (λ vs. AtMost (word_in t c loc) vs) (sym (pass (is_counter t loc) (Some (counted t loc ∷ [])) _ q))
          (by-end (list_any (writes_to loc) (events_of t)) refl (ends (c.coherence loc) (slice_index t.words loc)))

  -- ---- propositions

  register-exact : (core : ℕ) (reg : Reg) → core < length t.programs
      → Exact (value_in (slice_index_or (registers_left t c) core []) reg) (values_of (values_read told.readings) (register_left t core reg))
  register-exact core reg l =
      most-exact _ _
      (related-register (λ e n. AtMost n (values_of (values_read told.readings) e)) (most-relates (values_read told.readings))
      t (own_reads model t k o) core reg l (read-most model t k o allowed given facts covers))

  pub claim-exact : (claim : Claim) → NamesExist (length t.programs) (length t.words) claim → (b : Bool) → allows t told claim b ≡ true
      → truth_of (registers_left t c) (words_left t c) claim ≡ b
  claim-exact (TruthClaim x) n true h = h
  claim-exact (TruthClaim x) n false h = from-not x h
  claim-exact (RegClaim core reg value) n b h =
      number-back (value_in (slice_index_or (registers_left t c) core []) reg) value b (register-exact core reg n (same_number b value) h)
  claim-exact (LocClaim loc value) n b h =
      subst (λ m. (m == value) ≡ b) (sym (words-at c 0 t.words loc loc (omega arith) n))
      (number-back (word_in t c loc) value b (word-exact loc (same_number b value) h))
  claim-exact (NotClaim inner) n b h = not-not (truth_of (registers_left t c) (words_left t c) inner) b (claim-exact inner n (not b) h)
  claim-exact (AndClaim left right) n true h =
      let m = and-both (allows t told left true) (allows t told right true) h in
      and-of _ _ (claim-exact left n.0 true m.0) (claim-exact right n.1 true m.1)
  claim-exact (AndClaim left right) n false h =
      and-false _ _
      (either-of (λ g. claim-exact left n.0 false g) (λ g. claim-exact right n.1 false g) (or-either (allows t told left false) (allows t told right false) h))
  claim-exact (OrClaim left right) n true h =
      true-or _ _
      (either-of (λ g. claim-exact left n.0 true g) (λ g. claim-exact right n.1 true g) (or-either (allows t told left true) (allows t told right true) h))
  claim-exact (OrClaim left right) n false h =
      let m = and-both (allows t told left false) (allows t told right false) h in
      both-false _ _ (claim-exact left n.0 false m.0) (claim-exact right n.1 false m.1)

-- ---- what is false is false in a part that is given

module _ (t : Litmus) (told : Knowledge) where
  abbrev SomeFalse : List Fact → Type 0
  SomeFalse fs = list_any (is_impossible t told) fs ≡ true

  in-first-part : (fs gs : List Fact) → SomeFalse fs → SomeFalse (fs ++ gs)
  in-first-part fs gs h =
      let m = any-picked (is_impossible t told) fs h in
      any-at (is_impossible t told) (fs ++ gs) m.place m.member (left-at fs gs m.place m.member m.stands) m.holds

  in-second-part : (fs gs : List Fact) → SomeFalse gs → SomeFalse (fs ++ gs)
  in-second-part fs gs h =
      let m = any-picked (is_impossible t told) gs h in
      let i = right-at fs gs m.place m.member m.stands in
      any-at (is_impossible t told) (fs ++ gs) i.0 m.member i.1 m.holds

  whole : (claim : Claim) (truth : Bool) (rest : List Fact) → allows t told claim truth ≡ false → SomeFalse (Holds claim truth ∷ rest)
  whole claim truth rest h = or-first (is_impossible t told (Holds claim truth)) (list_any (is_impossible t told) rest) (ap not h)

  pub false-part : (claim : Claim) (truth : Bool) → allows t told claim truth ≡ false → SomeFalse (given_by t claim truth)
  false-part (TruthClaim x) truth h = whole (TruthClaim x) truth [] h
  false-part (RegClaim core reg value) truth h = whole (RegClaim core reg value) truth (value_facts (register_left t core reg) value truth) h
  false-part (LocClaim loc value) truth h = whole (LocClaim loc value) truth [] h
  false-part (NotClaim inner) truth h = false-part inner (not truth) h
  false-part (AndClaim left right) true h =
      go (allows t told left true) refl h (λ g. false-part left true g) (λ g. false-part right true g)
    where
      go : (b : Bool) → allows t told left true ≡ b → (b && allows t told right true) ≡ false
          → (allows t told left true ≡ false → SomeFalse (given_by t left true))
          → (allows t told right true ≡ false → SomeFalse (given_by t right true)) → SomeFalse (given_by t left true ++ given_by t right true)
      go true q e f g = in-second-part (given_by t left true) (given_by t right true) (g e)
      go false q e f g = in-first-part (given_by t left true) (given_by t right true) (f q)
  false-part (AndClaim left right) false h = whole (AndClaim left right) false [] h
  false-part (OrClaim left right) true h = whole (OrClaim left right) true [] h
  false-part (OrClaim left right) false h =
      go (allows t told left false) refl h (λ g. false-part left false g) (λ g. false-part right false g)
    where
      go : (b : Bool) → allows t told left false ≡ b → (b && allows t told right false) ≡ false
          → (allows t told left false ≡ false → SomeFalse (given_by t left false))
          → (allows t told right false ≡ false → SomeFalse (given_by t right false)) → SomeFalse (given_by t left false ++ given_by t right false)
      go true q e f g = in-second-part (given_by t left false) (given_by t right false) (g e)
      go false q e f g = in-first-part (given_by t left false) (given_by t right false) (f q)
