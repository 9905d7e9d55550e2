-- The relations that facts tell are those of each allowed candidate that meets them.
use Rattle.lemma_refutations.proofs.Vocabulary.{◌≡◌, true, List, Option, Some, None, refl, sym, ap, ◌∙◌, subst, Litmus, Entry, IsIn}
use Rattle.lemma_refutations.proofs.Vocabulary.{IsEarlier, Candidate, is_read, is_write, writes_to, ReadsFrom, IsBefore, StandsAfter}
use Rattle.lemma_refutations.proofs.Vocabulary.{FromReads, and-both, location, writes, IsAllowed, Sound, sound, Stands, IsSameSource, Fact}
use Rattle.lemma_refutations.proofs.Vocabulary.{sources_read, same_source, reads_it, comes_before, AreMet, HasSourceAmong}
use Rattle.lemma_refutations.proofs.Vocabulary.{ReadingsArePossible, KnownOrderIsRight, Knowledge, reads_from, overwrites, from_reads}
use Rattle.lemma_refutations.proofs.Vocabulary.{known_from, length, events_of, events}
use Rattle.lemma_refutations.proofs.Lists.{all-at}
use Rattle.refutation_laws.proofs.Standing.{same-bare, one-entry}
use Rattle.refutation_laws.proofs.Agreeing.{source-in}
use Rattle.refutation_laws.proofs.Cycles.{carried-one}

module _ (possible : ReadingsArePossible) (ordered : KnownOrderIsRight) (t : Litmus) (c : Candidate) (allowed : IsAllowed t c)
    (facts : List Fact) (met : AreMet t c facts) where
  d : Sound t c
  d = sound t c allowed.candidate

  abbrev b : Knowledge
  b = known_from t facts

  pub among : (r x : Entry) → Stands t c r x → is_read r ≡ true → HasSourceAmong c x (sources_read t b.readings r)
  among r x a read = (possible t c facts (length (events_of t)) r x allowed met a (carried-one t c is_read (λ y. refl) r x a read)).source

  -- ---- rf

  is-source : (w x : Entry) (o s : Option Entry) → IsSameSource o s → same_source (Some w) o ≡ true → Stands t c w x
      → ((z : Entry) → s ≡ Some z → IsIn (events t c) z) → s ≡ Some x
  is-source w x None s h q a inside = let z : ⊥ = cc in absurd z
  is-source w x (Some v) None h q a inside = absurd h
  is-source w x (Some v) (Some z) h q a inside =
      ap (λ y. Some y) (one-entry t c d z x (inside z refl) a.inside (sym h ∙ (sym (same-bare w v q) ∙ a.same)))

  pub has-rf : (w r x y : Entry) → reads_from t b w r ≡ true → Stands t c w x → Stands t c r y → ReadsFrom c x y
  has-rf w r x y h a e =
      let m = and-both (is_read r) (reads_it t b.readings (Some w) r) h in
      let read : is_read y ≡ true = carried-one t c is_read (λ z. refl) r y e m.0 in
      let s = among r y e m.0 in
      record {
        read = read;
        source =
            is-source w x s.source (c.source y) s.same
            (all-at (same_source (Some w)) (sources_read t b.readings r) s.number s.source m.1 s.among) a
            (λ z q. (source-in t c allowed.candidate y z e.inside read q).0);
      }

  -- ---- co

  pub has-co : (w v x y : Entry) → comes_before t b.facts b.readings w v ≡ true → is_write x ≡ true → Stands t c w x → Stands t c v y
      → IsBefore c x y
  has-co w v x y h write a e = ordered t c facts (length (events_of t)) w v x y allowed met a e write h

  -- ---- fr

  over : (r v x y : Entry) (o s : Option Entry) → IsSameSource o s → overwrites t b r v o ≡ true → Stands t c r x → Stands t c v y
      → ((z : Entry) → s ≡ Some z → IsIn (events t c) z × (writes_to x.loc.0 z ≡ true)) → StandsAfter (c.coherence x.loc.0) s y
  over r v x y None None i q a e inside =
      d.candidate.writes x.loc.0 y e.inside
      (subst (λ (z : Entry). writes_to z.loc.0 y ≡ true) a.same (subst (λ (z : Entry). writes_to r.loc.0 z ≡ true) e.same q))
  over r v x y None (Some z) i q a e inside = absurd i
  over r v x y (Some w) None i q a e inside = absurd i
  over r v x y (Some w) (Some z) i q a e inside =
      let f = inside z refl in
      subst (λ l. IsEarlier (c.coherence l) z y) (location x.loc.0 z f.1)
      (has-co w v z y q (writes x.loc.0 z f.1) (record { inside = f.0; same = i }) e)

  pub has-fr : (r v x y : Entry) → from_reads t b r v ≡ true → Stands t c r x → Stands t c v y → FromReads c x y
  has-fr r v x y h a e =
      let m = and-both (is_read r) _ h in
      let read : is_read x ≡ true = carried-one t c is_read (λ z. refl) r x a m.0 in
      let s = among r x a m.0 in
      record {
        read = read;
        overwritten =
            over r v x y s.source (c.source x) s.same
            (all-at (overwrites t b r v) (sources_read t b.readings r) s.number s.source m.1 s.among) a e
            (λ z q. source-in t c allowed.candidate x z a.inside read q);
      }
