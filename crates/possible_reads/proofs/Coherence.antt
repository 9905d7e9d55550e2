-- Program order in an allowed candidate: its writes to a location go on in coherence, and a read reads what it has left in force.
use Rattle.possible_reads.proofs.Vocabulary.{◌≡◌, ◌&&◌, ℕ, Bool, true, not, List, Option, Some, None, refl, sym, ap, ◌⊎◌, inl, inr, subst}
use Rattle.possible_reads.proofs.Vocabulary.{list_any, Entry, Litmus, IsIn, bare, events_of, Stands, IsSameSource, Candidate, events}
use Rattle.possible_reads.proofs.Vocabulary.{is_read, is_write, writes_to, is_before, Sound, and-both, IsEarlier, Precedes, from-precedes}
use Rattle.possible_reads.proofs.Vocabulary.{last-last, last_in, never-itself, never-back, stand-once, one-way, location, share, is-false}
use Rattle.possible_reads.proofs.Vocabulary.{IsAcyclic, at_once, onward, IsBefore, StandsAfter, IsBeforeOnLocation, po_loc, rf, co, fr}
use Rattle.possible_reads.proofs.Vocabulary.{writes-at}
use Rattle.relational_model.proofs.Ranks.{before-irreflexive}
use Rattle.relational_model.proofs.KindFacts.{writes}
use Rattle.relational_model.proofs.Fences.{true-or}
use Rattle.refutation_laws.proofs.Tests.{and-of, any-holds}
use Rattle.refutation_laws.proofs.Standing.{of-event}
use Rattle.refutation_laws.proofs.Cycles.{carried, carried-one}
use Rattle.refutation_laws.proofs.Agreeing.{source-in}
use Rattle.possible_reads.specs.Possible.{is_in_order}

-- no member passes a test
pub none-passes : (p : Entry → Bool) (xs : List Entry) → ((x : Entry) → IsIn xs x → p x ≡ true → ⊥) → not (list_any p xs) ≡ true
none-passes p xs f = ap not (is-false (list_any p xs) (λ h. let m = any-holds p xs h in f m.entry m.inside m.holds))

module _ (t : Litmus) (c : Candidate) (d : Sound t c) where
  -- the last write is before none
  pub last-before-none : (loc : ℕ) (w v : Entry) → last_in (c.coherence loc) ≡ Some w → IsEarlier (c.coherence loc) w v → ⊥
  last-before-none loc w v last e = clash (last-last (c.coherence loc) w v last (e.second, e.is_second))
    where
      clash : (v ≡ w) ⊎ Precedes v w (c.coherence loc) → ⊥
      clash (inl s) =
          never-itself (c.coherence loc) w (stand-once (c.coherence loc) (d.single loc)) (subst (IsEarlier (c.coherence loc) w) s e)
      clash (inr p) =
          never-back (c.coherence loc) w v (stand-once (c.coherence loc) (d.single loc)) e (from-precedes (c.coherence loc) v w p)

  -- each other write is before it
  pub before-last : (loc : ℕ) (w v : Entry) → last_in (c.coherence loc) ≡ Some w → IsIn (c.coherence loc) v → (v ≡ w → ⊥)
      → IsEarlier (c.coherence loc) v w
  before-last loc w v last i apart = elim (last-last (c.coherence loc) w v last i) [
    | inl e ↦ absurd (apart e)
    | inr p ↦ from-precedes (c.coherence loc) v w p
  ]

  pub stands-in : (e x : Entry) → IsIn (events t c) x → e ≡ bare x → Stands t c e x
  stands-in e x i h = record { inside = i; same = ap bare h }

module _ (t : Litmus) (c : Candidate) (d : Sound t c) (uniproc : IsAcyclic (events t c) (IsBeforeOnLocation c)) where
  -- of two writes to a location the one that comes first in their program is first in coherence
  pub in-program : (w v : Entry) → IsIn (events t c) w → IsIn (events t c) v → is_write w ≡ true → writes_to w.loc.0 v ≡ true
      → is_before w v ≡ true → IsBefore c w v
  in-program w v i j write to b =
      go (one-way (c.coherence w.loc.0) w v (d.candidate.writes w.loc.0 w i (writes-at w.loc.0 w write refl)) (d.candidate.writes w.loc.0 v j to))
    where
      go : (w ≡ v) ⊎ (IsEarlier (c.coherence w.loc.0) w v ⊎ IsEarlier (c.coherence w.loc.0) v w) → IsBefore c w v
      go (inl e) = absurd (before-irreflexive w (subst (λ z. is_before w z ≡ true) (sym e) b))
      go (inr (inl e)) = e
      go (inr (inr e)) =
          let back : IsBefore c v w = subst (λ l. IsEarlier (c.coherence l) v w) (sym (location w.loc.0 v to)) e in
          absurd (uniproc w
          (onward w v w i
          (po_loc w v b
          (share w v (true-or (is_read w) (is_write w) (inr write)) (true-or (is_read v) (is_write v) (inr (writes w.loc.0 v to)))
          (sym (location w.loc.0 v to))))
          (at_once v w j i (co v w back))))

  -- what overwrites a read's source doesn't come before the read in its program
  pub not-overwritten : (r v : Entry) → IsIn (events t c) r → IsIn (events t c) v → is_read r ≡ true → writes_to r.loc.0 v ≡ true
      → is_before v r ≡ true → StandsAfter (c.coherence r.loc.0) (c.source r) v → ⊥
  not-overwritten r v i j read to b after =
      uniproc v
      (onward v r v j
      (po_loc v r b
      (share v r (true-or (is_read v) (is_write v) (inr (writes r.loc.0 v to))) (true-or (is_read r) (is_write r) (inl read))
      (location r.loc.0 v to)))
      (at_once r v i j (fr r v (record { read = read; overwritten = after }))))

  not-later : (r z : Entry) → IsIn (events t c) r → IsIn (events t c) z → is_read r ≡ true → writes_to r.loc.0 z ≡ true
      → is_before r z ≡ true → c.source r ≡ Some z → ⊥
  not-later r z i j read to b source =
      uniproc r
      (onward r z r i
      (po_loc r z b
      (share r z (true-or (is_read r) (is_write r) (inl read)) (true-or (is_read z) (is_write z) (inr (writes r.loc.0 z to)))
      (sym (location r.loc.0 z to))))
      (at_once z r j i (rf z r (record { read = read; source = source }))))

  pub source-in-order : (read r : Entry) (s : Option Entry) → Stands t c read r → is_read r ≡ true → IsSameSource s (c.source r)
      → is_in_order t read s ≡ true
  source-in-order read r s at reads same = go s (c.source r) refl same
    where
      same-loc : r.loc.0 ≡ read.loc.0
      same-loc = ap (λ (z : Entry). z.loc.0) (sym at.same)

      go : (s o : Option Entry) → c.source r ≡ o → IsSameSource s o → is_in_order t read s ≡ true
      go None None q h =
          none-passes (λ w. writes_to read.loc.0 w && is_before w read) (events_of t)
          (λ e i p.
          let o = of-event t c e i in
          let m = and-both (writes_to read.loc.0 e) (is_before e read) p in
          let at-o : Stands t c e o.entry = stands-in t c d e o.entry o.inside o.same in
          let to : writes_to r.loc.0 o.entry ≡ true =
          subst (λ l. writes_to l o.entry ≡ true) (sym same-loc) (carried-one t c (writes_to read.loc.0) (λ z. refl) e o.entry at-o m.0) in
          not-overwritten r o.entry at.inside o.inside reads to (carried t c is_before (λ x y. refl) e read o.entry r at-o at m.1)
          (subst (λ x. StandsAfter (c.coherence r.loc.0) x o.entry) (sym q) (d.candidate.writes r.loc.0 o.entry o.inside to)))
      go None (Some z) q h = absurd h
      go (Some w) None q h = absurd h
      go (Some w) (Some z) q h =
          and-of (not (is_before read w)) _
          (ap not (is-false (is_before read w) (λ b.
          not-later r z at.inside in-z.0 reads in-z.1 (carried t c is_before (λ x y. refl) read w r z at at-z b) q)))
          (none-passes (λ v. writes_to read.loc.0 v && is_before w v && is_before v read) (events_of t) (λ e i p.
          let o = of-event t c e i in
          let m = and-both (writes_to read.loc.0 e && is_before w e) (is_before e read) p in
          let n = and-both (writes_to read.loc.0 e) (is_before w e) m.0 in
          let at-o : Stands t c e o.entry = stands-in t c d e o.entry o.inside o.same in
          let to : writes_to r.loc.0 o.entry ≡ true =
          subst (λ l. writes_to l o.entry ≡ true) (sym same-loc) (carried-one t c (writes_to read.loc.0) (λ z. refl) e o.entry at-o n.0) in
          let to-z : writes_to z.loc.0 o.entry ≡ true = subst (λ l. writes_to l o.entry ≡ true) (sym (location r.loc.0 z in-z.1)) to in
          let first : IsBefore c z o.entry =
          in-program z o.entry in-z.0 o.inside (writes r.loc.0 z in-z.1) to-z
          (carried t c is_before (λ x y. refl) w e z o.entry at-z at-o n.1) in
          not-overwritten r o.entry at.inside o.inside reads to (carried t c is_before (λ x y. refl) e read o.entry r at-o at m.1)
          (subst (λ x. StandsAfter (c.coherence r.loc.0) x o.entry) (sym q)
          (subst (λ l. IsEarlier (c.coherence l) z o.entry) (location r.loc.0 z in-z.1) first))))
        where
          in-z : IsIn (events t c) z × (writes_to r.loc.0 z ≡ true)
          in-z = source-in t c d.candidate r z at.inside reads q

          at-z : Stands t c w z
          at-z = record { inside = in-z.0; same = h }
