-- In a full case that no leaf closes, some event of those that are left can come next: the candidate of the case gives all answers, and
-- its edges never go round.
use Rattle.refutation_laws.proofs.Vocabulary.{◌≡◌, ◌==◌, ◌&&◌, ◌||◌, ℕ, true, false, not, List, [], ◌∷◌, Option, Some, None, refl, sym, ap}
use Rattle.refutation_laws.proofs.Vocabulary.{◌∙◌, inl, inr, subst, map, list_any, Litmus, is_before, is_read, is_write, writes_to}
use Rattle.refutation_laws.proofs.Vocabulary.{may_be_passed, Entry, IsIn, at_once, IsAcyclic, Candidate, IsBefore, IsAllowed, in-case}
use Rattle.refutation_laws.proofs.Vocabulary.{in-none, in-first, in-later, filter-in, and-both, or-either, number-same, Goes, member}
use Rattle.refutation_laws.proofs.Vocabulary.{GoesForward, LinearExtension, in-a-row, Toward, toward, pair-goes, way, others, is-other}
use Rattle.refutation_laws.proofs.Vocabulary.{other-is, Sound, sound, CanBeKept, goes-kept, step-kept, tso-allows, Known, bare, events_of}
use Rattle.refutation_laws.proofs.Vocabulary.{same_event, reads_from, comes_before, from_reads, are_parts, Stands, IsSameSource, HasSources}
use Rattle.refutation_laws.proofs.Vocabulary.{HasPairs, Agrees, Source, Pair, Model, Tso, Sequential, IsPossibleSource, ArePossible}
use Rattle.refutation_laws.proofs.Vocabulary.{AreSingle, AreOfReads, ArePairsOfWrites, IsSound, NoneBetween, is_kept_by, must_precede}
use Rattle.refutation_laws.proofs.Vocabulary.{comes_toward, is_load_part, valued, is-false, order-of, at-one}
use Rattle.refutation_laws.proofs.Tests.{and-of, or-first, or-second, any-holds, clash, pick, pass, from-not}
use Rattle.refutation_laws.proofs.Standing.{Of, of-event, same-bare, in-map}
use Rattle.refutation_laws.proofs.Soundness.{bare-same}
use Rattle.refutation_laws.proofs.Agreeing.{has-rf, has-co, has-fr}
use Rattle.refutation_laws.proofs.Rows.{Edge, never-back-at}
use Rattle.refutation_laws.proofs.Settling.{IsOpen, own_events, own_candidate, writes-row, one-own, entry_of, source_in, found}
use Rattle.refutation_laws.proofs.Allowing.{is-allowed}
use Rattle.refutation_laws.proofs.Ordering.{BeforeIn, parts-pair, load-kind, From, from, own}

-- ---- two events

same-through : (q r s : Entry) → same_event q r ≡ true → same_event s r ≡ true → same_event q s ≡ true
same-through q r s a b = bare-same q s (same-bare q r a ∙ sym (same-bare s r b))

module _ (model : Model) (t : Litmus) (k : Known) (o : IsOpen model t k) where
  abbrev es : List Entry
  es = own_events model t k o

  abbrev c : Candidate
  c = own_candidate model t k o

  -- ---- the candidate gives all answers

  its-source : (s : Option Entry) (r : Entry) → IsPossibleSource t r s → IsSameSource s (entry_of es s)
  its-source None r p = tt
  its-source (Some w) r p =
      let of : Of es w = of-event t c w p.0 in
      let e : entry_of es (Some w) ≡ Some of.entry =
      found es w of.entry (λ z iz h. one-own model t k o z of.entry iz of.inside h) (ap bare of.same) of.inside in
      subst (λ z. IsSameSource (Some w) z) (sym e) (ap bare of.same)

  any-single : (s r : Entry) (ss : List Source) → same_event s r ≡ true → list_any (λ (q : Source). same_event q.read r) ss ≡ true
      → list_any (λ (q : Source). same_event q.read s) ss ≡ true
  any-single s r [] h a = let z : ⊥ = cc in absurd z
  any-single s r (q ∷ ss) h a = elim (or-either (same_event q.read r) _ a) [
    | inl b ↦ or-first (same_event q.read s) _ (same-through q.read r s b h)
    | inr b ↦ or-second (same_event q.read s) _ (any-single s r ss h b)
  ]

  has-sources : (ss : List Source) → ArePossible t ss → AreSingle ss → AreOfReads ss
      → ((r : Entry) → list_any (λ (q : Source). same_event q.read r) ss ≡ true → source_in es k.sources r ≡ source_in es ss r)
      → HasSources t c ss
  has-sources [] ps single reads f = tt
  has-sources (s ∷ ss) ps single reads f = (
    (λ r st.
        let same : same_event s.read r ≡ true = bare-same s.read r st.same in
        let e : source_in es k.sources r ≡ entry_of es s.write =
        f r (or-first (same_event s.read r) _ same) ∙ pick (same_event s.read r) (entry_of es s.write) (source_in es ss r) same in
        (subst (λ z. is_read z ≡ true) st.same reads.0, subst (λ z. IsSameSource s.write z) (sym e) (its-source s.write s.read ps.0))),
    has-sources ss ps.1 single.1 reads.1 (λ r a.
        f r (or-second (same_event s.read r) _ a)
        ∙ pass (same_event s.read r) (entry_of es s.write) (source_in es ss r)
        (is-false (same_event s.read r) (λ h. clash _ (any-single s.read r ss h a) single.0))),
  )

  in-order : (p : Pair) → is_write p.first ≡ true → writes_to p.first.loc.0 p.second ≡ true → same_event p.first p.second ≡ false
      → (w v : Entry) → Stands t c p.first w → Stands t c p.second v → comes_before k w v ≡ true → IsBefore c w v
  in-order p writes to apart w v sw sv b = elim (order-of iw.0 iv.0) [
    | inl l ↦ record { first = iw.0; second = iv.0; is_first = iw.1; is_second = iv.1; before = l }
    | inr (inl e) ↦
        let same : w ≡ v = at-one (c.coherence loc) iw.0 iv.0 w v iw.1 iv.1 e in
        absurd (clash _ (bare-same p.first p.second (sw.same ∙ (ap bare same ∙ sym sv.same))) apart)
    | inr (inr l) ↦
        absurd (never-back-at (Edge (comes_before k)) (writes-row model t k o loc).row iw.0 iv.0 w v (writes-row model t k o loc).forward iw.1 iv.1 l b)
  ]
    where
      first : is_write w ≡ true
      first = subst (λ z. is_write z ≡ true) sw.same writes

      loc : ℕ
      loc = w.loc.0

      to-w : writes_to loc w ≡ true
      to-w = and-of (is_write w) (w.loc.0 == loc) first (number-same w.loc.0 loc refl)

      to-v : writes_to loc v ≡ true
      to-v = subst (λ (z : Entry). writes_to z.loc.0 v ≡ true) sw.same (subst (λ (z : Entry). writes_to p.first.loc.0 z ≡ true) sv.same to)

      iw : IsIn (c.coherence loc) w
      iw = (writes-row model t k o loc).inside w (filter-in (writes_to loc) es w sw.inside to-w)

      iv : IsIn (c.coherence loc) v
      iv = (writes-row model t k o loc).inside v (filter-in (writes_to loc) es v sv.inside to-v)

  has-pairs : (ps : List Pair) → ArePairsOfWrites ps
      → ((p : Pair) (w v : Entry) → list_any (λ (q : Pair). same_event q.first w && same_event q.second v) ps ≡ true → comes_before k w v ≡ true)
      → HasPairs t c ps
  has-pairs [] fit f = tt
  has-pairs (p ∷ ps) fit f = (
    (λ w v sw sv.
        in-order p fit.0.0 fit.0.1.0 fit.0.1.1 w v sw sv
        (f p w v (or-first (same_event p.first w && same_event p.second v) _
        (and-of (same_event p.first w) (same_event p.second v) (bare-same p.first w sw.same) (bare-same p.second v sv.same))))),
    has-pairs ps fit.1 (λ q w v h. f q w v (or-second (same_event p.first w && same_event p.second v) _ h)),
  )

  pub agrees : IsSound t k → Agrees t c k
  agrees s = record {
    sources = has-sources k.sources s.possible s.single s.reads (λ r h. refl);
    order = has-pairs k.order s.pairs (λ p w v h. h);
  }

  -- ---- edges that are known are the candidate's

  own-stands : (x : Entry) → IsIn es x → Stands t c (bare x) x
  own-stands x i = record { inside = i; same = refl }

  goes-so : (d : Sound t c) (g : Agrees t c k) (x y : Entry) → IsIn es x → IsIn es y
      → ((reads_from k (bare x) (bare y) && not (x.core.0 == y.core.0)) || (comes_before k (bare x) (bare y) || from_reads k (bare x) (bare y))) ≡ true
      → Goes c x y
  goes-so d g x y i j h = elim (or-either (reads_from k (bare x) (bare y) && not (x.core.0 == y.core.0)) _ h) [
    | inl b ↦
        let m = and-both (reads_from k (bare x) (bare y)) _ b in
        inr (inl (
          has-rf t c d k.sources g.sources (bare x) (bare y) x y m.0 (own-stands x i) (own-stands y j),
          λ e. clash _ (number-same x.core.0 y.core.0 e) (from-not (x.core.0 == y.core.0) m.1),
        ))
    | inr b ↦ elim (or-either (comes_before k (bare x) (bare y)) _ b) [
      | inl b ↦ inr (inr (inl (has-co t c k g (bare x) (bare y) x y b (own-stands x i) (own-stands y j))))
      | inr b ↦ inr (inr (inr (has-fr t c d k g (bare x) (bare y) x y b (own-stands x i) (own-stands y j))))
    ]
  ]

-- what is kept of program order
kept-goes : (model : Model) (c : Candidate) (x y : Entry) → is_kept_by model (bare x) (bare y) ≡ true → BeforeIn model c x y
kept-goes Tso c x y h =
    let m = and-both (is_before x y) (not (may_be_passed x y)) h in
    inl (m.0, from-not (may_be_passed x y) m.1)
kept-goes Sequential c x y h = inl h

goes-in : (model : Model) (c : Candidate) (x y : Entry) → Goes c x y → BeforeIn model c x y
goes-in Tso c x y g = g
goes-in Sequential c x y g = inr g

-- ---- the first of some in a row

-- one of these that is in the row has none of them before it
first-in : (E : Entry → Entry → Type 0) (row some : List Entry) → GoesForward E row → ((x : Entry) → IsIn row x → E x x → ⊥)
    → ((x : Entry) → IsIn some x → IsIn row x) → ((x : Entry) → IsIn some x → (y : Entry) × (IsIn some y × E y x))
    → (x : Entry) → IsIn some x → ⊥
first-in E [] some f never inside stuck x i = in-none x (inside x i)
first-in E (r ∷ row) some f never inside stuck x i = elim (member some r) [
  | inl j ↦
      let m = stuck r j in
      elim (in-case r row m.0 (inside m.0 m.1.0)) [
        | inl e ↦ never r (in-first r row r refl) (subst (λ z. E z r) e m.1.1)
        | inr l ↦ f.0 m.0 l m.1.1
      ]
  | inr n ↦
      first-in E row some f.1 (λ z j. never z (in-later r row z j))
      (λ z j. elim (in-case r row z (inside z j)) [ inl e ↦ absurd (n (subst (IsIn some) e j)) | inr l ↦ l ]) stuck x i
]

module _ (model : Model) (t : Litmus) (k : Known) (o : IsOpen model t k) (s : IsSound t k)
    (a : IsAllowed t (own_candidate model t k o))
    (keep : CanBeKept t (own_candidate model t k o) (BeforeIn model (own_candidate model t k o))) where
  abbrev fs : List Entry
  fs = own_events model t k o

  abbrev d : Candidate
  d = own_candidate model t k o

  abbrev Before : Entry → Entry → Type 0
  Before = BeforeIn model d

  must-so : (x y : Entry) → IsIn fs x → IsIn fs y → must_precede model k (bare x) (bare y) ≡ true → Before x y
  must-so x y i j h = elim (or-either (is_kept_by model (bare x) (bare y)) _ h) [
    | inl b ↦ kept-goes model d x y b
    | inr b ↦ goes-in model d x y (goes-so model t k o (sound t d a.candidate) (agrees model t k o s) x y i j b)
  ]

  toward-so : (x y : Entry) → IsIn fs x → IsIn fs y → comes_toward model t k (bare x) (bare y) ≡ true → Toward fs Before x y
  toward-so x y i j h = elim (or-either (must_precede model k (bare x) (bare y)) _ h) [
    | inl b ↦ inl (must-so x y i j b)
    | inr b ↦
        let m = any-holds (λ r. are_parts r (bare y) && must_precede model k (bare x) r) (events_of t) b in
        let of : Of fs m.entry = of-event t d m.entry m.inside in
        let q = and-both (are_parts (bare of.entry) (bare y)) (must_precede model k (bare x) (bare of.entry))
        (subst (λ r. (are_parts r (bare y) && must_precede model k (bare x) r) ≡ true) of.same m.holds) in
        inr (of.entry, (of.inside, (parts-pair of.entry y q.0, must-so x of.entry i of.inside q.1)))
  ]

  -- the events of these that are left can't all have one of them before them
  some-first : (rest : List Entry) → ((x : Entry) → IsIn rest x → IsIn (events_of t) x × (is_load_part x ≡ false))
      → ((x : Entry) → IsIn rest x → list_any (λ y. comes_toward model t k y x) rest ≡ true) → (x : Entry) → IsIn rest x → ⊥
  some-first rest inside stuck x i =
      first-in (Toward fs Before) row.row (map (valued t k) rest) row.forward
      (λ z j b. acyclic z (at_once z z (row.outside z j) (row.outside z j) b)) (λ z j. at z (from model t k o rest z j))
      (λ z j. before z (from model t k o rest z j)) (valued t k x) (in-map (valued t k) rest x i)
    where
      acyclic : IsAcyclic (others fs) (Toward fs Before)
      acyclic z p =
          keep.acyclic z (way fs (others fs) Before (λ r w q. keep.holds r w (pair-goes d r w q)) (λ y j. (is-other fs y j).0) z z p)

      row : LinearExtension (Toward fs Before) (others fs)
      row = in-a-row (others fs) (Toward fs Before) (toward fs Before keep.decided) acyclic

      at : (z : Entry) → From model t k o rest z → IsIn row.row z
      at z m =
          let h = inside m.event m.inside in
          row.inside z
          (other-is fs z (subst (IsIn fs) (sym m.is) (own model t k o m.event h.0).inside)
          (λ q. load-kind m.event h.1 (sym (ap (λ (y : Entry). y.kind) m.is) ∙ q)))

      before : (z : Entry) → From model t k o rest z → (y : Entry) × (IsIn (map (valued t k) rest) y × Toward fs Before y z)
      before z m =
          let b = any-holds (λ y. comes_toward model t k y m.event) rest (stuck m.event m.inside) in
          let of-z = own model t k o m.event (inside m.event m.inside).0 in
          let of-y = own model t k o b.entry (inside b.entry b.inside).0 in (
            valued t k b.entry,
            (
              in-map (valued t k) rest b.entry b.inside,
              subst (λ e. Toward fs Before (valued t k b.entry) e) (sym m.is)
                  (toward-so (valued t k b.entry) (valued t k m.event) of-y.inside of-z.inside
                  (subst (λ e. comes_toward model t k e (bare (valued t k m.event)) ≡ true) (sym of-y.same)
                  (subst (λ e. comes_toward model t k b.entry e ≡ true) (sym of-z.same) b.holds))),
            ),
          )

-- the lemma
pub never-stuck : (model : Model) (t : Litmus) (k : Known) (o : IsOpen model t k) → NoneBetween t k → IsSound t k → (rest : List Entry)
    → ((x : Entry) → IsIn rest x → IsIn (events_of t) x × (is_load_part x ≡ false))
    → ((x : Entry) → IsIn rest x → list_any (λ y. comes_toward model t k y x) rest ≡ true) → (x : Entry) → IsIn rest x → ⊥
never-stuck Tso t k o none s rest inside stuck x i =
    let a = is-allowed Tso t k o none in
    let c = own_candidate Tso t k o in
    some-first Tso t k o s a (goes-kept t c (sound t c a.candidate) a) rest inside stuck x i
never-stuck Sequential t k o none s rest inside stuck x i =
    let q = is-allowed Sequential t k o none in
    let c = own_candidate Sequential t k o in
    let a = tso-allows t c q in
    some-first Sequential t k o s a (step-kept t c (sound t c a.candidate) q) rest inside stuck x i
