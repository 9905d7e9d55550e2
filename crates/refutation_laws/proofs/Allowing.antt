-- The candidate of a full case with no cycle, and with no write between two parts, is allowed: each of its edges is known.
use Rattle.refutation_laws.proofs.Vocabulary.{◌≡◌, ℕ, ◌==◌, ◌&&◌, ◌||◌, Bool, true, false, not, if◌then◌else◌, List, [], ◌∷◌, Option, Some}
use Rattle.refutation_laws.proofs.Vocabulary.{None, refl, sym, ap, ◌∙◌, ◌⊎◌, inl, inr, subst, list_all, Litmus, is_before, is_read}
use Rattle.refutation_laws.proofs.Vocabulary.{is_write, writes_to, same_kind, Entry, F, LR, LW, IsIn, IsEarlier, LeadsTo, at_once, onward}
use Rattle.refutation_laws.proofs.Vocabulary.{IsAcyclic, Candidate, IsCandidate, events, is_access, share_location, ReadsFrom, IsBefore}
use Rattle.refutation_laws.proofs.Vocabulary.{StandsAfter, FromReads, IsBeforeOnLocation, po_loc, rf, co, fr, HappensBefore}
use Rattle.refutation_laws.proofs.Vocabulary.{write_before_write, read_before_access, mfence, implied, rfe, IsAtomic, is_locked, in-filter}
use Rattle.refutation_laws.proofs.Vocabulary.{filter-in, and-both, or-either, number-same, kind-itself, never-itself, stand-once, location}
use Rattle.refutation_laws.proofs.Vocabulary.{starts-in, Ordered, Sound, sound, IsBeforeSequentially, Known, bare, events_of, same_event}
use Rattle.refutation_laws.proofs.Vocabulary.{is_event, is_write_of, reads_from, comes_before, is_overwritten, from_reads, Source, relates}
use Rattle.refutation_laws.proofs.Vocabulary.{on_location, global_in, is_edge, are_parts, IsAllowedBy, Model, Tso, Sequential, Relation}
use Rattle.refutation_laws.proofs.Vocabulary.{Mfence, IsPossibleSource, NoneBetween}
use Rattle.relational_model.specs.SequentialModel as sc
use Rattle.refutation_laws.proofs.Standing.{Of, of-event, same-bare}
use Rattle.refutation_laws.proofs.Tests.{and-of, or-first, or-second, any-in, different}
use Rattle.refutation_laws.proofs.Relating.{OneOf, edge-by, of-bare, fr-bare}
use Rattle.refutation_laws.proofs.Rows.{Edge, ordered-acyclic, never-back-at}
use Rattle.refutation_laws.proofs.Settling.{First, IsOpen, entry_among, entry_of, found, is-event, own_events, own_candidate, writes-row}
use Rattle.refutation_laws.proofs.Settling.{own-in, place, one-own, first-source, settled}

matched : (xs : List Entry) (w y : Entry) → entry_among xs w ≡ Some y → same_event w y ≡ true
matched [] w y h = let z : ⊥ = cc in absurd z
matched (x ∷ xs) w y h = go (same_event w x) refl h (λ g. matched xs w y g)
  where
    go : (b : Bool) → same_event w x ≡ b → (if b then Some x else entry_among xs w) ≡ Some y
        → (entry_among xs w ≡ Some y → same_event w y ≡ true) → same_event w y ≡ true
    go true q g later = let e : x ≡ y = cc in subst (λ z. same_event w z ≡ true) e q
    go false q g later = later g

unlike : (w : Entry) → None ≡ Some w → ⊥
unlike w h = let z : ⊥ = cc in z

module _ (model : Model) (t : Litmus) (k : Known) (o : IsOpen model t k) where
  abbrev es : List Entry
  es = own_events model t k o

  abbrev c : Candidate
  c = own_candidate model t k o

  pub is-candidate : IsCandidate t c
  is-candidate = record {
    reads = λ r i read. let p = place model t k o r i in (settled model t k o r i read p.0 p.1).returns;
    writes = λ loc w i to. (writes-row model t k o loc).inside w (filter-in (writes_to loc) es w i to);
    count = λ loc. (writes-row model t k o loc).count;
  }

  pub write-in : (loc : ℕ) (w : Entry) → IsIn (c.coherence loc) w → IsIn es w × (writes_to loc w ≡ true)
  write-in loc w i = in-filter (writes_to loc) es w ((writes-row model t k o loc).outside w i)

  -- co
  pub co-known : (w v : Entry) → IsBefore c w v → comes_before k w v ≡ true
  co-known w v e = go (same_event w v) refl
    where
      iw : IsIn es w × (writes_to w.loc.0 w ≡ true)
      iw = write-in w.loc.0 w (e.first, e.is_first)

      iv : IsIn es v × (writes_to w.loc.0 v ≡ true)
      iv = write-in w.loc.0 v (e.second, e.is_second)

      d : Sound t c
      d = sound t c is-candidate

      one : w ≡ v → ⊥
      one q =
          never-itself (c.coherence w.loc.0) w (stand-once (c.coherence w.loc.0) (d.single w.loc.0))
          (subst (IsEarlier (c.coherence w.loc.0) w) (sym q) e)

      back : comes_before k v w ≡ true → ⊥
      back h =
          never-back-at (Edge (comes_before k)) (writes-row model t k o w.loc.0).row e.second e.first v w (writes-row model t k o w.loc.0).forward
          e.is_second e.is_first e.before h

      writes : is_write w ≡ true
      writes = (and-both (is_write w) (w.loc.0 == w.loc.0) iw.1).0

      on : (comes_before k w v ≡ true) ⊎ (comes_before k v w ≡ true) → comes_before k w v ≡ true
      on (inl h) = h
      on (inr h) = absurd (back h)

      go : (b : Bool) → same_event w v ≡ b → comes_before k w v ≡ true
      go true q = absurd (one (one-own model t k o w v iw.0 iv.0 (same-bare w v q)))
      go false q =
          let a = own-in model t k o w iw.0 in
          let b = own-in model t k o v iv.0 in
          on (or-either (comes_before k w v) (comes_before k v w)
          (o.full.order (bare w) (bare v) a b
          (and-of _ (not (same_event (bare w) (bare v)))
          (and-of _ (writes_to w.loc.0 v)
          (and-of _ (is_write w)
          (and-of (is_event t (bare w)) (is_event t (bare v)) (is-event t (bare w) a) (is-event t (bare v) b)) writes) iv.1)
          (ap not q))))

  -- rf
  pub rf-known : (w r : Entry) → IsIn es r → ReadsFrom c w r → reads_from k w r ≡ true
  rf-known w r i h = go f.source.write refl
    where
      f : First t k.sources r
      f = first-source model t k o r i h.read

      go : (s : Option Entry) → f.source.write ≡ s → reads_from k w r ≡ true
      go None q = absurd (unlike w (sym (f.from es ∙ ap (λ s. entry_of es s) q) ∙ h.source))
      go (Some v) q =
          let e : entry_among es v ≡ Some w = sym (f.from es ∙ ap (λ s. entry_of es s) q) ∙ h.source in
          f.among (λ (s : Source). is_write_of w s.write) (subst (λ s. is_write_of w s ≡ true) (sym q) (matched es v w e))

  -- fr
  pub fr-known : (r v : Entry) → IsIn es r → FromReads c r v → from_reads k r v ≡ true
  fr-known r v i h = go f.source.write refl
    where
      f : First t k.sources r
      f = first-source model t k o r i h.read

      over : (s : Option Entry) → f.source.write ≡ s → is_overwritten k r s v ≡ true → from_reads k r v ≡ true
      over s q g = f.among (λ (s : Source). is_overwritten k r s.write v) (subst (λ s. is_overwritten k r s v ≡ true) (sym q) g)

      go : (s : Option Entry) → f.source.write ≡ s → from_reads k r v ≡ true
      go None q =
          let e : c.source r ≡ None = f.from es ∙ ap (λ s. entry_of es s) q in
          let j : IsIn (c.coherence r.loc.0) v = subst (λ s. StandsAfter (c.coherence r.loc.0) s v) e h.overwritten in
          over None q (write-in r.loc.0 v j).1
      go (Some w) q =
          let p : IsPossibleSource t f.source.read (Some w) = subst (λ s. IsPossibleSource t f.source.read s) q f.possible in
          let of : Of es w = of-event t c w p.0 in
          let y : Entry = of.entry in
          let e : c.source r ≡ Some y =
          f.from es ∙ (ap (λ s. entry_of es s) q ∙ found es w y (λ z iz g. one-own model t k o z y iz of.inside g) (ap bare of.same) of.inside) in
          let l : IsEarlier (c.coherence r.loc.0) y v = subst (λ s. StandsAfter (c.coherence r.loc.0) s v) e h.overwritten in
          let at : y.loc.0 ≡ r.loc.0 = location r.loc.0 y (write-in r.loc.0 y (l.first, l.is_first)).1 in
          let b : comes_before k y v ≡ true = co-known y v (subst (λ n. IsEarlier (c.coherence n) y v) (sym at) l) in
          over (Some w) q (subst (λ z. comes_before k z v ≡ true) (sym of.same) b)

  -- ---- edges

  -- uniproc's edges are known
  on-location-known : (x y : Entry) → IsIn es x → IsIn es y → IsBeforeOnLocation c x y → OneOf t k on_location x y
  on-location-known x y i j (po_loc _ _ b s) = inl (and-of (is_before x y) (share_location x y) b s)
  on-location-known x y i j (rf _ _ h) = inr (inl (rf-known x y j h))
  on-location-known x y i j (co _ _ h) = inr (inr (inl (co-known x y h)))
  on-location-known x y i j (fr _ _ h) = inr (inr (inr (inl (fr-known x y i h))))

  -- those of ghb
  fenced : (x f y : Entry) → IsIn es f → f.kind ≡ F → is_before x f ≡ true → is_before f y ≡ true → relates t k Mfence x y ≡ true
  fenced x f y l kind b d =
      any-in (λ (g : Entry). same_kind g.kind F && is_before x g && is_before g y) (events_of t) (bare f) (own-in model t k o f l)
      (and-of _ (is_before f y)
      (and-of (same_kind f.kind F) (is_before x f) (subst (λ z. same_kind z F ≡ true) (sym kind) (kind-itself F)) b) d)

  global-known : (x y : Entry) → IsIn es x → IsIn es y → HappensBefore (events t c) c x y → OneOf t k (global_in Tso) x y
  global-known x y i j (write_before_write _ _ b wx wy) =
      inl (and-of (is_before x y) _ b (or-first (is_write x && is_write y) _ (and-of (is_write x) (is_write y) wx wy)))
  global-known x y i j (read_before_access _ _ b rx ay) =
      inl (and-of (is_before x y) _ b (or-second (is_write x && is_write y) _ (and-of (is_read x) (is_access y) rx ay)))
  global-known x y i j (mfence _ f _ l kind b d) = inr (inl (fenced x f y l kind b d))
  global-known x y i j (implied _ _ b wx ry l) =
      inr (inr (inl (and-of _ (is_locked x || is_locked y) (and-of _ (is_read y) (and-of (is_before x y) (is_write x) b wx) ry) l)))
  global-known x y i j (rfe _ _ h n) =
      inr (inr (inr (inl (and-of (reads_from k x y) _ (rf-known x y j h) (different x.core.0 y.core.0 n)))))
  global-known x y i j (co _ _ h) = inr (inr (inr (inr (inl (co-known x y h)))))
  global-known x y i j (fr _ _ h) = inr (inr (inr (inr (inr (inl (fr-known x y i h))))))

  -- those of sequential consistency
  sequential-known : (x y : Entry) → IsIn es x → IsIn es y → IsBeforeSequentially c x y → OneOf t k (global_in Sequential) x y
  sequential-known x y i j (sc.po _ _ b) = inl b
  sequential-known x y i j (sc.rf _ _ h) = inr (inl (rf-known x y j h))
  sequential-known x y i j (sc.co _ _ h) = inr (inr (inl (co-known x y h)))
  sequential-known x y i j (sc.fr _ _ h) = inr (inr (inr (inl (fr-known x y i h))))

  -- a way of edges that are known is a way of the events
  carried : (Before : Entry → Entry → Type 0) (rs : List Relation)
      → ((x y : Entry) → IsIn es x → IsIn es y → Before x y → OneOf t k rs x y)
      → (a b : Entry) → LeadsTo es Before a b → LeadsTo (events_of t) (Edge (is_edge t k rs)) (bare a) (bare b)
  carried Before rs f _ _ (at_once a b i j h) =
      at_once (bare a) (bare b) (own-in model t k o a i) (own-in model t k o b j) (of-bare t k rs a b (edge-by t k rs a b (f a b i j h)))
  carried Before rs f _ _ (onward a b d i h rest) =
      onward (bare a) (bare b) (bare d) (own-in model t k o a i)
      (of-bare t k rs a b (edge-by t k rs a b (f a b i (starts-in es Before b d rest) h))) (carried Before rs f b d rest)

  never-round : (Before : Entry → Entry → Type 0) (rs : List Relation)
      → ((x y : Entry) → IsIn es x → IsIn es y → Before x y → OneOf t k rs x y)
      → Ordered (Edge (is_edge t k rs)) (events_of t) → IsAcyclic es Before
  never-round Before rs f row x way = ordered-acyclic (Edge (is_edge t k rs)) (events_of t) row (bare x) (carried Before rs f x x way)

  atomic : NoneBetween t k → IsAtomic es c
  atomic none r v w ir iv iw p f far b apart =
      let jr = own-in model t k o r ir in
      let jv = own-in model t k o v iv in
      let jw = own-in model t k o w iw in
      none (bare r) (bare v) (bare w) jr jv jw
      (and-of _ (comes_before k v w)
      (and-of _ (from_reads k (bare r) (bare v))
      (and-of _ (not (r.core.0 == v.core.0))
      (and-of (list_all (is_event t) (bare r ∷ (bare v ∷ (bare w ∷ [])))) (are_parts r w)
      (and-of (is_event t (bare r)) _ (is-event t (bare r) jr)
      (and-of (is_event t (bare v)) _ (is-event t (bare v) jv) (and-of (is_event t (bare w)) true (is-event t (bare w) jw) refl)))
      (and-of _ (r.place == w.place)
      (and-of _ (r.core.0 == w.core.0)
      (and-of (same_kind r.kind LR) (same_kind w.kind LW) (subst (λ z. same_kind z LR ≡ true) (sym p.read) (kind-itself LR))
      (subst (λ z. same_kind z LW ≡ true) (sym p.write) (kind-itself LW))) (number-same r.core.0 w.core.0 p.core))
      (number-same r.place w.place p.place)))
      (different r.core.0 v.core.0 far))
      (sym (fr-bare k r v) ∙ fr-known r v ir f))
      (co-known v w b))

  uniproc : IsAcyclic es (IsBeforeOnLocation c)
  uniproc = never-round (IsBeforeOnLocation c) on_location (λ x y i j h. on-location-known x y i j h) o.within_locations

-- the lemma
pub is-allowed : (model : Model) (t : Litmus) (k : Known) (o : IsOpen model t k) → NoneBetween t k
    → IsAllowedBy model t (own_candidate model t k o)
is-allowed Tso t k o none = record {
  candidate = is-candidate Tso t k o;
  uniproc = uniproc Tso t k o;
  atomic = atomic Tso t k o none;
  global = never-round Tso t k o (HappensBefore (events t (c Tso t k o)) (c Tso t k o)) (global_in Tso)
      (λ x y i j h. global-known Tso t k o x y i j h) o.globally;
}
is-allowed Sequential t k o none = record {
  candidate = is-candidate Sequential t k o;
  atomic = atomic Sequential t k o none;
  global = never-round Sequential t k o (IsBeforeSequentially (c Sequential t k o)) (global_in Sequential)
      (λ x y i j h. sequential-known Sequential t k o x y i j h) o.globally;
}
