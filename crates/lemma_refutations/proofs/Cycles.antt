-- The three leaves of relations: an allowed candidate that meets the facts has none of them.
use Rattle.lemma_refutations.proofs.Vocabulary.{◌≡◌, ◌≢◌, ℕ, ◌==◌, ◌&&◌, ◌||◌, Bool, true, not, List, [], ◌∷◌, refl, sym, ap, ◌∙◌, ◌⊎◌, inl}
use Rattle.lemma_refutations.proofs.Vocabulary.{inr, list_all, Litmus, is_before, is_read, is_write, same_kind, Entry, F, LR, LW, LeadsTo}
use Rattle.lemma_refutations.proofs.Vocabulary.{at_once, onward, Candidate, events, is_access, share_location, ReadsFrom}
use Rattle.lemma_refutations.proofs.Vocabulary.{IsBeforeOnLocation, po_loc, rf, co, fr, HappensBefore, write_before_write}
use Rattle.lemma_refutations.proofs.Vocabulary.{read_before_access, mfence, implied, rfe, IsAtomic, IsAllowed, is_locked}
use Rattle.lemma_refutations.proofs.Vocabulary.{IsBeforeSequentially, and-both, or-either, same-number, number-same, equal-kinds, bare}
use Rattle.lemma_refutations.proofs.Vocabulary.{events_of, is_event, on_location, global_in, leads_back, is_cycle, are_parts, Stands}
use Rattle.lemma_refutations.proofs.Vocabulary.{IsAllowedBy, Model, Tso, Sequential, Relation, Mfence, Fact, AreMet, ReadingsArePossible}
use Rattle.lemma_refutations.proofs.Vocabulary.{KnownOrderIsRight, comes_before, Knowledge, known_from, reads_from, from_reads, relates}
use Rattle.lemma_refutations.proofs.Vocabulary.{is_edge, is_between, writes, Sound, sound, IsBefore, FromReads, StandsAfter, Option, Some}
use Rattle.lemma_refutations.proofs.Vocabulary.{None}
use Rattle.relational_model.specs.SequentialModel as sc
use Rattle.refutation_laws.proofs.Tests.{any-holds}
use Rattle.refutation_laws.proofs.Standing.{standing, of-event}
use Rattle.refutation_laws.proofs.Cycles.{carried, carried-one, Follows, Round}
use Rattle.lemma_refutations.proofs.Agreeing.{has-rf, has-co, has-fr}

-- ---- one of some relations

abbrev pub OneOf : Litmus → Knowledge → List Relation → Entry → Entry → Type 0
OneOf t b [] x y = ⊥
OneOf t b (r ∷ rs) x y = (relates t b r x y ≡ true) ⊎ OneOf t b rs x y

pub one-of : (t : Litmus) (b : Knowledge) (rs : List Relation) (x y : Entry) → is_edge t b rs x y ≡ true → OneOf t b rs x y
one-of t b [] x y h = let z : ⊥ = cc in z
one-of t b (r ∷ rs) x y h = elim (or-either (relates t b r x y) (is_edge t b rs x y) h) [ inl g ↦ inl g | inr g ↦ inr (one-of t b rs x y g) ]

differ : (m n : ℕ) → not (m == n) ≡ true → m ≢ n
differ m n far same = let z : (m == n) ≡ true = number-same m n same in let w : ⊥ = cc in w

-- ---- edges

module _ (possible : ReadingsArePossible) (ordered : KnownOrderIsRight) (t : Litmus) (c : Candidate) (met-by : IsAllowed t c)
    (facts : List Fact) (met : AreMet t c facts)
    (e f x y : Entry) (a : Stands t c e x) (b : Stands t c f y) where
  abbrev k : Knowledge
  k = known_from t facts

  before : is_before e f ≡ true → is_before x y ≡ true
  before q = carried t c is_before (λ u v. refl) e f x y a b q

  first-is : (p : Entry → Bool) → ((z : Entry) → p z ≡ p (bare z)) → p e ≡ true → p x ≡ true
  first-is p same q = carried-one t c p same e x a q

  second-is : (p : Entry → Bool) → ((z : Entry) → p z ≡ p (bare z)) → p f ≡ true → p y ≡ true
  second-is p same q = carried-one t c p same f y b q

  read : reads_from t k e f ≡ true → ReadsFrom c x y
  read q = has-rf possible ordered t c met-by facts met e f x y q a b

  coherent : (is_write e && comes_before t facts k.readings e f) ≡ true → IsBefore c x y
  coherent q =
      let m = and-both (is_write e) (comes_before t facts k.readings e f) q in
      has-co possible ordered t c met-by facts met e f x y m.1 (first-is is_write (λ z. refl) m.0) a b

  apart : not (e.core.0 == f.core.0) ≡ true → x.core.0 ≢ y.core.0
  apart n same =
      let q : e.core.0 ≡ f.core.0 =
      ap (λ (z : Entry). z.core.0) a.same ∙ (same ∙ sym (ap (λ (z : Entry). z.core.0) b.same)) in
      let z : (e.core.0 == f.core.0) ≡ true = number-same e.core.0 f.core.0 q in
      let w : ⊥ = cc in w

  on-location-of : OneOf t k on_location e f → IsBeforeOnLocation c x y
  on-location-of (inl q) =
      let m = and-both (is_before e f) (share_location e f) q in
      po_loc x y (before m.0) (carried t c share_location (λ u v. refl) e f x y a b m.1)
  on-location-of (inr (inl q)) = rf x y (read q)
  on-location-of (inr (inr (inl q))) = co x y (coherent q)
  on-location-of (inr (inr (inr (inl q)))) = fr x y (has-fr possible ordered t c met-by facts met e f x y q a b)
  on-location-of (inr (inr (inr (inr q)))) = absurd q

  kept : is_before x y ≡ true → ((is_write e && is_write f) ≡ true) ⊎ ((is_read e && is_access f) ≡ true) → HappensBefore (events t c) c x y
  kept p (inl q) =
      let m = and-both (is_write e) (is_write f) q in
      write_before_write x y p (first-is is_write (λ z. refl) m.0) (second-is is_write (λ z. refl) m.1)
  kept p (inr q) =
      let m = and-both (is_read e) (is_access f) q in
      read_before_access x y p (first-is is_read (λ z. refl) m.0) (second-is is_access (λ z. refl) m.1)

  fenced : relates t k Mfence e f ≡ true → HappensBefore (events t c) c x y
  fenced q =
      let m = any-holds (λ (g : Entry). same_kind g.kind F && is_before e g && is_before g f) (events_of t) q in
      let o = of-event t c m.entry m.inside in
      let s : Stands t c m.entry o.entry = record { inside = o.inside; same = ap bare o.same } in
      let n = and-both (same_kind m.entry.kind F && is_before e m.entry) (is_before m.entry f) m.holds in
      let p = and-both (same_kind m.entry.kind F) (is_before e m.entry) n.0 in
      mfence x o.entry y o.inside
      (ap (λ (z : Entry). z.kind) (sym o.same) ∙ equal-kinds m.entry.kind F p.0)
      (carried t c is_before (λ u v. refl) e m.entry x o.entry a s p.1)
      (carried t c is_before (λ u v. refl) m.entry f o.entry y s b n.1)

  global-of : OneOf t k (global_in Tso) e f → HappensBefore (events t c) c x y
  global-of (inl q) =
      let m = and-both (is_before e f) ((is_write e && is_write f) || (is_read e && is_access f)) q in
      kept (before m.0) (or-either (is_write e && is_write f) (is_read e && is_access f) m.1)
  global-of (inr (inl q)) = fenced q
  global-of (inr (inr (inl q))) =
      let m = and-both _ (is_locked e || is_locked f) q in
      let n = and-both _ (is_read f) m.0 in
      let p = and-both (is_before e f) (is_write e) n.0 in
      implied x y (before p.0) (first-is is_write (λ z. refl) p.1) (second-is is_read (λ z. refl) n.1)
      (carried t c (λ (u v : Entry). is_locked u || is_locked v) (λ u v. refl) e f x y a b m.1)
  global-of (inr (inr (inr (inl q)))) =
      let m = and-both (reads_from t k e f) _ q in
      rfe x y (read m.0) (apart m.1)
  global-of (inr (inr (inr (inr (inl q))))) = co x y (coherent q)
  global-of (inr (inr (inr (inr (inr (inl q)))))) = fr x y (has-fr possible ordered t c met-by facts met e f x y q a b)
  global-of (inr (inr (inr (inr (inr (inr q)))))) = absurd q

  sequential-of : OneOf t k (global_in Sequential) e f → IsBeforeSequentially c x y
  sequential-of (inl q) = sc.po x y (before q)
  sequential-of (inr (inl q)) = sc.rf x y (read q)
  sequential-of (inr (inr (inl q))) = sc.co x y (coherent q)
  sequential-of (inr (inr (inr (inl q)))) = sc.fr x y (has-fr possible ordered t c met-by facts met e f x y q a b)
  sequential-of (inr (inr (inr (inr q)))) = absurd q

-- ---- cycles

back : (t : Litmus) (c : Candidate) (edge : Entry → Entry → Bool) (Before : Entry → Entry → Type 0) → Follows t c edge Before
    → (first e u x : Entry) (es : List Entry) → Stands t c first u → Stands t c e x → list_all (is_event t) es ≡ true
    → leads_back edge first e es ≡ true → LeadsTo (events t c) Before x u
back t c edge Before f first e u x [] a b all h = at_once x u b.inside a.inside (f e first x u b a h)
back t c edge Before f first e u x (g ∷ gs) a b all h =
    let m = and-both (edge e g) (leads_back edge first g gs) h in
    let n = and-both (is_event t g) (list_all (is_event t) gs) all in
    let s = standing t c g n.0 in
    onward x s.entry u b.inside (f e g x s.entry b s.stands m.0) (back t c edge Before f first g u s.entry gs a s.stands n.1 m.1)

goes-round : (t : Litmus) (c : Candidate) (edge : Entry → Entry → Bool) (Before : Entry → Entry → Type 0) → Follows t c edge Before
    → (es : List Entry) → is_cycle t edge es ≡ true → Round t c Before
goes-round t c edge Before f [] h = let z : ⊥ = cc in absurd z
goes-round t c edge Before f (e ∷ es) h =
    let m = and-both (list_all (is_event t) (e ∷ es)) (leads_back edge e e es) h in
    let n = and-both (is_event t e) (list_all (is_event t) es) m.0 in
    let s = standing t c e n.0 in
    record { entry = s.entry; round = back t c edge Before f e e s.entry s.entry es s.stands s.stands n.1 m.1 }

module _ (possible : ReadingsArePossible) (ordered : KnownOrderIsRight) (t : Litmus) (c : Candidate) (met-by : IsAllowed t c)
    (facts : List Fact) (met : AreMet t c facts) where
  abbrev told : Knowledge
  told = known_from t facts

  d : Sound t c
  d = sound t c met-by.candidate

  -- what overwrites a source is a write
  written : (u y : Entry) → StandsAfter (c.coherence u.loc.0) (c.source u) y → is_write y ≡ true
  written u y h = go (c.source u) h
    where
      go : (o : Option Entry) → StandsAfter (c.coherence u.loc.0) o y → is_write y ≡ true
      go None i = writes u.loc.0 y (d.coherent u.loc.0 y i).1
      go (Some z) i = writes u.loc.0 y (d.coherent u.loc.0 y (i.second, i.is_second)).1

  -- ---- no cycles

  pub no-cycle-on-location : IsAllowed t c → (es : List Entry) → is_cycle t (is_edge t told on_location) es ≡ true → ⊥
  no-cycle-on-location allowed es q =
      let r = goes-round t c (is_edge t told on_location) (IsBeforeOnLocation c)
      (λ e f x y a b g. on-location-of possible ordered t c met-by facts met e f x y a b (one-of t told on_location e f g)) es q in
      allowed.uniproc r.entry r.round

  pub no-cycle-globally : (model : Model) → IsAllowedBy model t c → (es : List Entry) → is_cycle t (is_edge t told (global_in model)) es ≡ true → ⊥
  no-cycle-globally Tso allowed es q =
      let r = goes-round t c (is_edge t told (global_in Tso)) (HappensBefore (events t c) c)
      (λ e f x y a b g. global-of possible ordered t c met-by facts met e f x y a b (one-of t told (global_in Tso) e f g)) es q in
      allowed.global r.entry r.round
  no-cycle-globally Sequential allowed es q =
      let r = goes-round t c (is_edge t told (global_in Sequential)) (IsBeforeSequentially c)
      (λ e f x y a b g. sequential-of possible ordered t c met-by facts met e f x y a b (one-of t told (global_in Sequential) e f g)) es q in
      allowed.global r.entry r.round

  -- ---- between the parts of a locked instruction

  pub none-between : IsAtomic (events t c) c → (r v w : Entry) → is_between t told r v w ≡ true → ⊥
  none-between atomic r v w q =
      let a = and-both _ (comes_before t facts told.readings v w) q in
      let b = and-both _ (from_reads t told r v) a.0 in
      let e = and-both _ (not (r.core.0 == v.core.0)) b.0 in
      let f = and-both (list_all (is_event t) (r ∷ (v ∷ (w ∷ [])))) (are_parts r w) e.0 in
      let g = and-both (is_event t r) _ f.0 in
      let i = and-both (is_event t v) _ g.1 in
      let j = and-both (is_event t w) true i.1 in
      let x = standing t c r g.0 in
      let y = standing t c v i.0 in
      let z = standing t c w j.0 in
      let parts : are_parts x.entry z.entry ≡ true = carried t c are_parts (λ u v. refl) r w x.entry z.entry x.stands z.stands f.1 in
      let l = and-both _ (x.entry.place == z.entry.place) parts in
      let m = and-both _ (x.entry.core.0 == z.entry.core.0) l.0 in
      let n = and-both (same_kind x.entry.kind LR) (same_kind z.entry.kind LW) m.0 in
      let cores : x.entry.core.0 ≡ z.entry.core.0 = same-number x.entry.core.0 z.entry.core.0 m.1 in
      let from : FromReads c x.entry y.entry = has-fr possible ordered t c met-by facts met r v x.entry y.entry b.1 x.stands y.stands in
      let far : not (x.entry.core.0 == y.entry.core.0) ≡ true =
      carried t c (λ (u v : Entry). not (u.core.0 == v.core.0)) (λ u v. refl) r v x.entry y.entry x.stands y.stands e.1 in
      atomic x.entry y.entry z.entry x.stands.inside y.stands.inside z.stands.inside
      (record {
        read = equal-kinds x.entry.kind LR n.0;
        write = equal-kinds z.entry.kind LW n.1;
        core = cores;
        place = same-number x.entry.place z.entry.place l.1;
      })
      (from) (differ x.entry.core.0 y.entry.core.0 far)
      (has-co possible ordered t c met-by facts met v w y.entry z.entry a.1 (written x.entry y.entry from.overwritten) y.stands z.stands)
      (λ same. differ x.entry.core.0 y.entry.core.0 far (cores ∙ sym same))
