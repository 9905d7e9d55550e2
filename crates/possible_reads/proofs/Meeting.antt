-- What a candidate that meets facts returns, reads from and orders, as the tests on facts ask it.
use Rattle.possible_reads.proofs.Vocabulary.{◌≡◌, ◌==◌, ◌≤◌, ◌<◌, arith, nat_tests, nat_lt, ℕ, Bool, true, false, not, List, [], ◌∷◌}
use Rattle.possible_reads.proofs.Vocabulary.{if◌then◌else◌, Option, Some, None, refl}
use Rattle.possible_reads.proofs.Vocabulary.{sym, ap, ◌∙◌, inl, inr, subst, list_any, list_all, Entry, Litmus, bare, same_event, Stands}
use Rattle.possible_reads.proofs.Vocabulary.{IsSameSource, Candidate, and-both, or-either, same-number, IsBefore, is-false, last_in}
use Rattle.refutation_laws.proofs.Tests.{and-of}
use Rattle.refutation_laws.proofs.Standing.{same-bare}
use Rattle.refutation_laws.proofs.Soundness.{bare-same}
use Rattle.refutation_laws.proofs.Agreeing.{stands-for}
use Rattle.tso_terms.specs.Condition.{TruthClaim, RegClaim, LocClaim, NotClaim, AndClaim, OrClaim}
use Rattle.possible_reads.specs.Facts.{Fact, From, Before, Last, Returns, Holds}
use Rattle.possible_reads.specs.Possible.{same_source, same_number, fits_word, may_be_left, fits_last, told_word, is_told_before}
use Rattle.possible_reads.specs.Possible.{fits_value, may_return, told_value, fits_source, returns_less, leaves_less, Values, can_be_left}
use Rattle.possible_reads.specs.Laws.{IsMet, AreMet, IsPossible, word_in}
use Rattle.possible_reads.proofs.Values.{itself-possible, possible-test}

-- ---- sources

-- what is named so is one source
pub same-sources : (a b o : Option Entry) → IsSameSource a o → IsSameSource b o → same_source a b ≡ true
same-sources None None None p q = refl
same-sources None (Some w) None p q = absurd q
same-sources (Some w) b None p q = absurd p
same-sources None b (Some z) p q = absurd p
same-sources (Some w) None (Some z) p q = absurd q
same-sources (Some w) (Some v) (Some z) p q = bare-same w v (p ∙ sym q)

pub source-of-same : (a b o : Option Entry) → same_source a b ≡ true → IsSameSource b o → IsSameSource a o
source-of-same None None o h q = q
source-of-same None (Some w) o h q = let z : ⊥ = cc in absurd z
source-of-same (Some w) None o h q = let z : ⊥ = cc in absurd z
source-of-same (Some w) (Some v) None h q = absurd q
source-of-same (Some w) (Some v) (Some z) h q = same-bare w v h ∙ q

-- ---- numbers

pub number-fits : (n value : ℕ) (truth : Bool) → (n == value) ≡ truth → same_number truth value n ≡ true
number-fits n value true h = h
number-fits n value false h = ap not h

too-small : (n value least : ℕ) → n ≡ value → least ≤ n → nat_lt value least ≡ true → ⊥
too-small n value least e l h = let k : value < least = grind (arith, nat_tests) in omega arith

-- ---- facts

module _ (t : Litmus) (c : Candidate) where
  pub all-met : (p : Fact → Bool) → ((f : Fact) → IsMet t c f → p f ≡ true) → (fs : List Fact) → AreMet t c fs → list_all p fs ≡ true
  all-met p g [] m = refl
  all-met p g (f ∷ fs) m = and-of (p f) (list_all p fs) (g f m.0) (all-met p g fs m.1)

  pub any-met : (p : Fact → Bool) (P : Type 0) → ((f : Fact) → IsMet t c f → p f ≡ true → P) → (fs : List Fact) → AreMet t c fs
      → list_any p fs ≡ true → P
  any-met p P g [] m h = let z : ⊥ = cc in absurd z
  any-met p P g (f ∷ fs) m h = elim (or-either (p f) (list_any p fs) h) [ inl a ↦ g f m.0 a | inr b ↦ any-met p P g fs m.1 b ]

  -- a read's source fits what is met
  pub source-fits : (read r : Entry) (s : Option Entry) → Stands t c read r → IsSameSource s (c.source r) → (f : Fact) → IsMet t c f
      → fits_source read s f ≡ true
  source-fits read r s at same (From e write true) m = go (same_event e read) refl
    where
      go : (b : Bool) → same_event e read ≡ b → (if b then same_source write s else true) ≡ true
      go true q = same-sources write s (c.source r) (m r (stands-for t c e read r q at)) same
      go false q = refl
  source-fits read r s at same (From e write false) m = go (same_event e read) refl
    where
      go : (b : Bool) → same_event e read ≡ b → (if b then not (same_source write s) else true) ≡ true
      go true q =
          ap not (is-false (same_source write s) (λ h.
          m r (stands-for t c e read r q at) (source-of-same write s (c.source r) h same)))
      go false q = refl
  source-fits read r s at same (Before first second) m = refl
  source-fits read r s at same (Last write truth) m = refl
  source-fits read r s at same (Returns e value truth) m = refl
  source-fits read r s at same (Holds claim truth) m = refl

  -- and so does its value
  value-fits : (read r : Entry) → Stands t c read r → (f : Fact) → IsMet t c f → fits_value read r.value f ≡ true
  value-fits read r at (From e write truth) m = refl
  value-fits read r at (Before first second) m = refl
  value-fits read r at (Last write truth) m = refl
  value-fits read r at (Returns e value truth) m = go (same_event e read) refl
    where
      go : (b : Bool) → same_event e read ≡ b → (if b then same_number truth value r.value else true) ≡ true
      go true q = number-fits r.value value truth (m r (stands-for t c e read r q at))
      go false q = refl
  value-fits read r at (Holds claim truth) m = refl

  pub returns-so : (facts : List Fact) → AreMet t c facts → (read r : Entry) → Stands t c read r → may_return facts read r.value ≡ true
  returns-so facts m read r at = all-met (fits_value read r.value) (λ f g. value-fits read r at f g) facts m

  pub told : (facts : List Fact) → AreMet t c facts → (read r : Entry) → Stands t c read r → IsPossible (told_value facts read) r.value
  told [] m read r at = refl
  told (From e write truth ∷ facts) m read r at = told facts m.1 read r at
  told (Before first second ∷ facts) m read r at = told facts m.1 read r at
  told (Last write truth ∷ facts) m read r at = told facts m.1 read r at
  told (Returns e value true ∷ facts) m read r at = go (same_event e read) refl (told facts m.1 read r at)
    where
      go : (b : Bool) → same_event e read ≡ b → IsPossible (told_value facts read) r.value
          → IsPossible (if b then Some (value ∷ []) else told_value facts read) r.value
      go true q rest =
          subst (λ n. IsPossible (Some (value ∷ [])) n) (sym (same-number r.value value (m.0 r (stands-for t c e read r q at)))) (itself-possible value)
      go false q rest = rest
  told (Returns e value false ∷ facts) m read r at = told facts m.1 read r at
  told (Holds claim truth ∷ facts) m read r at = told facts m.1 read r at

  -- no fact says that it returns less than this
  no-less-fact : (read r : Entry) (least : ℕ) → Stands t c read r → least ≤ r.value → (f : Fact) → IsMet t c f
      → returns_less read least f ≡ true → ⊥
  no-less-fact read r least at l (From e write truth) m h = let z : ⊥ = cc in z
  no-less-fact read r least at l (Before first second) m h = let z : ⊥ = cc in z
  no-less-fact read r least at l (Last write truth) m h = let z : ⊥ = cc in z
  no-less-fact read r least at l (Returns e value true) m h =
      let n = and-both (same_event e read) (nat_lt value least) h in
      too-small r.value value least (same-number r.value value (m r (stands-for t c e read r n.0 at))) l n.1
  no-less-fact read r least at l (Returns e value false) m h = let z : ⊥ = cc in z
  no-less-fact read r least at l (Holds claim truth) m h = let z : ⊥ = cc in z

  pub returns-no-less : (facts : List Fact) → AreMet t c facts → (read r : Entry) (least : ℕ) → Stands t c read r → least ≤ r.value
      → not (list_any (returns_less read least) facts) ≡ true
  returns-no-less facts m read r least at l =
      ap not (is-false (list_any (returns_less read least) facts)
      (any-met (returns_less read least) ⊥ (λ f g h. no-less-fact read r least at l f g h) facts m))

  -- the last word fits what is met
  word-fits-fact : (loc : ℕ) (f : Fact) → IsMet t c f → fits_word loc (word_in t c loc) f ≡ true
  word-fits-fact loc (From e write truth) m = refl
  word-fits-fact loc (Before first second) m = refl
  word-fits-fact loc (Last write truth) m = refl
  word-fits-fact loc (Returns e value truth) m = refl
  word-fits-fact loc (Holds (TruthClaim b) truth) m = refl
  word-fits-fact loc (Holds (RegClaim core reg value) truth) m = refl
  word-fits-fact loc (Holds (LocClaim l value) truth) m = go (l == loc) refl
    where
      go : (b : Bool) → (l == loc) ≡ b → (if b then same_number truth value (word_in t c loc) else true) ≡ true
      go true q = number-fits (word_in t c loc) value truth (subst (λ n. (word_in t c n == value) ≡ truth) (same-number l loc q) m)
      go false q = refl
  word-fits-fact loc (Holds (NotClaim inner) truth) m = refl
  word-fits-fact loc (Holds (AndClaim left right) truth) m = refl
  word-fits-fact loc (Holds (OrClaim left right) truth) m = refl

  pub word-fits : (facts : List Fact) → AreMet t c facts → (loc : ℕ) → may_be_left facts loc (word_in t c loc) ≡ true
  word-fits facts m loc = all-met (fits_word loc (word_in t c loc)) (λ f g. word-fits-fact loc f g) facts m

  -- no fact says that less than this is left
  no-less-word : (loc least : ℕ) → least ≤ word_in t c loc → (f : Fact) → IsMet t c f → leaves_less loc least f ≡ true → ⊥
  no-less-word loc least l (From e write truth) m h = let z : ⊥ = cc in z
  no-less-word loc least l (Before first second) m h = let z : ⊥ = cc in z
  no-less-word loc least l (Last write truth) m h = let z : ⊥ = cc in z
  no-less-word loc least l (Returns e value truth) m h = let z : ⊥ = cc in z
  no-less-word loc least l (Holds (LocClaim other value) true) m h =
      let n = and-both (other == loc) (nat_lt value least) h in
      too-small (word_in t c loc) value least
      (same-number (word_in t c loc) value (subst (λ k. (word_in t c k == value) ≡ true) (same-number other loc n.0) m)) l n.1
  no-less-word loc least l (Holds (LocClaim other value) false) m h = let z : ⊥ = cc in z
  no-less-word loc least l (Holds (TruthClaim b) truth) m h = let z : ⊥ = cc in z
  no-less-word loc least l (Holds (RegClaim core reg value) truth) m h = let z : ⊥ = cc in z
  no-less-word loc least l (Holds (NotClaim inner) truth) m h = let z : ⊥ = cc in z
  no-less-word loc least l (Holds (AndClaim left right) truth) m h = let z : ⊥ = cc in z
  no-less-word loc least l (Holds (OrClaim left right) truth) m h = let z : ⊥ = cc in z

  leaves-no-less : (facts : List Fact) → AreMet t c facts → (loc least : ℕ) → least ≤ word_in t c loc
      → not (list_any (leaves_less loc least) facts) ≡ true
  leaves-no-less facts m loc least l =
      ap not (is-false (list_any (leaves_less loc least) facts)
      (any-met (leaves_less loc least) ⊥ (λ f g h. no-less-word loc least l f g h) facts m))

  -- what the last write leaves can be left
  pub left-possible : (facts : List Fact) → AreMet t c facts → (loc : ℕ) (values : Values) (least : ℕ) → IsPossible values (word_in t c loc)
      → least ≤ word_in t c loc → can_be_left facts loc values least ≡ true
  left-possible facts m loc None least h l = leaves-no-less facts m loc least l
  left-possible facts m loc (Some values) least h l = possible-test (Some values) (may_be_left facts loc) (word_in t c loc) h (word-fits facts m loc)

  pub told-of-word : (facts : List Fact) → AreMet t c facts → (loc : ℕ) → IsPossible (told_word facts loc) (word_in t c loc)
  told-of-word [] m loc = refl
  told-of-word (From e write truth ∷ facts) m loc = told-of-word facts m.1 loc
  told-of-word (Before first second ∷ facts) m loc = told-of-word facts m.1 loc
  told-of-word (Last write truth ∷ facts) m loc = told-of-word facts m.1 loc
  told-of-word (Returns e value truth ∷ facts) m loc = told-of-word facts m.1 loc
  told-of-word (Holds (TruthClaim b) truth ∷ facts) m loc = told-of-word facts m.1 loc
  told-of-word (Holds (RegClaim core reg value) truth ∷ facts) m loc = told-of-word facts m.1 loc
  told-of-word (Holds (LocClaim l value) true ∷ facts) m loc = go (l == loc) refl (told-of-word facts m.1 loc)
    where
      go : (b : Bool) → (l == loc) ≡ b → IsPossible (told_word facts loc) (word_in t c loc)
          → IsPossible (if b then Some (value ∷ []) else told_word facts loc) (word_in t c loc)
      go true q rest =
          subst (λ n. IsPossible (Some (value ∷ [])) n)
          (sym (same-number (word_in t c loc) value (subst (λ n. (word_in t c n == value) ≡ true) (same-number l loc q) m.0)))
          (itself-possible value)
      go false q rest = rest
  told-of-word (Holds (LocClaim l value) false ∷ facts) m loc = told-of-word facts m.1 loc
  told-of-word (Holds (NotClaim inner) truth ∷ facts) m loc = told-of-word facts m.1 loc
  told-of-word (Holds (AndClaim left right) truth ∷ facts) m loc = told-of-word facts m.1 loc
  told-of-word (Holds (OrClaim left right) truth ∷ facts) m loc = told-of-word facts m.1 loc

  -- the last write is the one that is said to be it
  last-fits-fact : (loc : ℕ) (w x : Entry) → bare w ≡ bare x → x.loc.0 ≡ loc → last_in (c.coherence loc) ≡ Some x → (f : Fact) → IsMet t c f
      → fits_last loc w f ≡ true
  last-fits-fact loc w x h at last (From e write truth) m = refl
  last-fits-fact loc w x h at last (Before first second) m = refl
  last-fits-fact loc w x h at last (Last v true) m = go (v.loc.0 == loc) refl
    where
      go : (b : Bool) → (v.loc.0 == loc) ≡ b → (if b then same_event v w else true) ≡ true
      go true q =
          let k : IsSameSource (Some v) (Some x) =
          subst (IsSameSource (Some v)) (ap (λ l. last_in (c.coherence l)) (same-number v.loc.0 loc q) ∙ last) m in
          bare-same v w (k ∙ sym h)
      go false q = refl
  last-fits-fact loc w x h at last (Last v false) m =
      ap not (is-false (same_event v w) (λ e.
      let k : bare v ≡ bare x = same-bare v w e ∙ h in
      m (subst (IsSameSource (Some v)) (sym (ap (λ l. last_in (c.coherence l)) (ap (λ (z : Entry). z.loc.0) k ∙ at) ∙ last)) k)))
  last-fits-fact loc w x h at last (Returns e value truth) m = refl
  last-fits-fact loc w x h at last (Holds claim truth) m = refl

  pub last-fits : (facts : List Fact) → AreMet t c facts → (loc : ℕ) (w x : Entry) → bare w ≡ bare x → x.loc.0 ≡ loc
      → last_in (c.coherence loc) ≡ Some x → list_all (fits_last loc w) facts ≡ true
  last-fits facts m loc w x h at last = all-met (fits_last loc w) (λ f g. last-fits-fact loc w x h at last f g) facts m

  -- an order that is told
  told-before-fact : (w v x y : Entry) → Stands t c w x → Stands t c v y → (f : Fact) → IsMet t c f → is_told_before w v f ≡ true → IsBefore c x y
  told-before-fact w v x y a b (From e write truth) m h = let z : ⊥ = cc in absurd z
  told-before-fact w v x y a b (Before first second) m h =
      let n = and-both (same_event first w) (same_event second v) h in
      m x y (stands-for t c first w x n.0 a) (stands-for t c second v y n.1 b)
  told-before-fact w v x y a b (Last write truth) m h = let z : ⊥ = cc in absurd z
  told-before-fact w v x y a b (Returns e value truth) m h = let z : ⊥ = cc in absurd z
  told-before-fact w v x y a b (Holds claim truth) m h = let z : ⊥ = cc in absurd z

  pub told-before : (facts : List Fact) → AreMet t c facts → (w v x y : Entry) → Stands t c w x → Stands t c v y
      → list_any (is_told_before w v) facts ≡ true → IsBefore c x y
  told-before facts m w v x y a b h =
      any-met (is_told_before w v) (IsBefore c x y) (λ f g q. told-before-fact w v x y a b f g q) facts m h
