-- The relations that the answers of a case tell, its facts tell too.
use Rattle.lemma_refutations.proofs.Vocabulary.{◌≡◌, ◌==◌, ◌&&◌, ℕ, suc, true, not, List, [], ◌∷◌, length, slice_get, Option, Some, None}
use Rattle.lemma_refutations.proofs.Vocabulary.{refl, sym, ap, ◌∙◌, inl, inr, subst, list_any, Litmus, Entry, IsIn, in-none, in-first}
use Rattle.lemma_refutations.proofs.Vocabulary.{in-later, is_read, is_write, and-both, or-either, events_of, same_event, Relation, Mfence}
use Rattle.lemma_refutations.proofs.Vocabulary.{Po, PoLoc, PoGhb, Implied, Rf, Rfe, Co, Fr, Fact, Before, readings_after, sources_read}
use Rattle.lemma_refutations.proofs.Vocabulary.{same_source, comes_before, Knowledge, known_from, reads_from, overwrites, from_reads}
use Rattle.lemma_refutations.proofs.Vocabulary.{relates, is_edge, is_between}
use Rattle.possible_reads.specs.Possible.{is_put_before, is_told_before}
use Rattle.refutation_laws.specs.Known as old
use Rattle.refutation_laws.specs.Edges as old_edges
use Rattle.refutation_laws.proofs.Vocabulary.{Known}
use Rattle.refutation_laws.specs.declared.known.Source.{Source}
use Rattle.refutation_laws.specs.declared.known.Pair.{Pair}
use Rattle.relational_model.specs.inner.Rows.{GoesForward, Ordered}
use Rattle.refutation_laws.proofs.Standing.{same-bare}
use Rattle.refutation_laws.proofs.Soundness.{bare-same}
use Rattle.refutation_laws.proofs.Tests.{and-of, or-first, or-second}
use Rattle.refutation_laws.proofs.Rows.{Edge}
use Rattle.lemma_refutations.proofs.Lists.{Has, any-picked, any-at, all-of}
use Rattle.lemma_refutations.proofs.Covering.{Covers, fits, sources-after, fits-named, same-on}

module _ (t : Litmus) (given : List Fact) (k : Known) (facts : List Fact) (covers : Covers given k facts) where
  abbrev told : Knowledge
  told = known_from t facts

  -- what is left of a read's sources is what an answer names
  left-named : (s : Source) → Has k.sources s → (r : Entry) → same_event s.read r ≡ true → IsIn (events_of t) r → is_read r ≡ true
      → (o : Option Entry) → Has (sources_read t told.readings r) o → same_source s.write o ≡ true
  left-named s h r same i read o = go (length (events_of t)) (more (events_of t) r i)
    where
      more : (xs : List Entry) (x : Entry) → IsIn xs x → (n : ℕ) × (length xs ≡ suc n)
      more [] x j = absurd (in-none x j)
      more (y ∷ ys) x j = (length ys, refl)

      go : (n : ℕ) → (m : ℕ) × (n ≡ suc m) → Has (sources_read t (readings_after t facts n) r) o → same_source s.write o ≡ true
      go n (m, e) (j, q) =
          let f = (covers.sources s h).0 in
          fits-named r s.read s.write o facts f same
          (fits t facts r i read m o (
            j,
            ap (λ xs. slice_get xs j) (sym (sources-after t facts r i read m))
                ∙ subst (λ l. slice_get (sources_read t (readings_after t facts l) r) j ≡ Some o) e q,
          ))

  -- the read of an answer is a read
  reads : (s : Source) → Has k.sources s → (r : Entry) → same_event s.read r ≡ true → is_read r ≡ true
  reads s h r same = subst (λ (z : Entry). is_read z ≡ true) (same-bare s.read r same) (covers.sources s h).1

  -- ---- rf

  rf-told : (w r : Entry) → IsIn (events_of t) r → old.reads_from k w r ≡ true → reads_from t told w r ≡ true
  rf-told w r i h =
      let m = any-picked (λ (s : Source). same_event s.read r && old.is_write_of w s.write) k.sources h in
      let n = and-both (same_event m.member.read r) (old.is_write_of w m.member.write) m.holds in
      let read : is_read r ≡ true = reads m.member (m.place, m.stands) r n.0 in
      and-of (is_read r) _ read
      (all-of (same_source (Some w)) (sources_read t told.readings r) (λ j o e.
      go m.member.write n.1 o (left-named m.member (m.place, m.stands) r n.0 i read o (j, e))))
    where
      go : (q : Option Entry) → old.is_write_of w q ≡ true → (o : Option Entry) → same_source q o ≡ true → same_source (Some w) o ≡ true
      go None g o e = let z : ⊥ = cc in absurd z
      go (Some v) g o e = same-on (Some w) (Some v) o (bare-same w v (sym (same-bare v w g))) e

  -- ---- co

  co-told : (w v : Entry) → old.comes_before k w v ≡ true → (comes_before t facts told.readings w v ≡ true) × (is_write w ≡ true)
  co-told w v h =
      let m = any-picked (λ (p : Pair). same_event p.first w && same_event p.second v) k.order h in
      let f = covers.pairs m.member (m.place, m.stands) in
      let n = and-both (same_event m.member.first w) (same_event m.member.second v) m.holds in (
        or-first (is_put_before facts w v) _
            (or-first (list_any (is_told_before w v) facts) _
            (any-at (is_told_before w v) facts f.0.0 (Before m.member.first m.member.second) f.0.1 m.holds)),
        subst (λ (z : Entry). is_write z ≡ true) (same-bare m.member.first w n.0) f.1,
      )

  -- a write that is named otherwise is before the same ones
  co-named : (w u v : Entry) → same_event w u ≡ true → old.comes_before k w v ≡ true → comes_before t facts told.readings u v ≡ true
  co-named w u v same h =
      let m = any-picked (λ (p : Pair). same_event p.first w && same_event p.second v) k.order h in
      let n = and-both (same_event m.member.first w) (same_event m.member.second v) m.holds in
      (co-told u v (any-at (λ (p : Pair). same_event p.first u && same_event p.second v) k.order m.place m.member m.stands
      (and-of (same_event m.member.first u) (same_event m.member.second v)
      (bare-same m.member.first u (same-bare m.member.first w n.0 ∙ same-bare w u same)) n.1))).0

  -- ---- fr

  fr-told : (r v : Entry) → IsIn (events_of t) r → old.from_reads k r v ≡ true → from_reads t told r v ≡ true
  fr-told r v i h =
      let m = any-picked (λ (s : Source). same_event s.read r && old.is_overwritten k r s.write v) k.sources h in
      let n = and-both (same_event m.member.read r) (old.is_overwritten k r m.member.write v) m.holds in
      let read : is_read r ≡ true = reads m.member (m.place, m.stands) r n.0 in
      and-of (is_read r) _ read
      (all-of (overwrites t told r v) (sources_read t told.readings r) (λ j o e.
      go m.member.write n.1 o (left-named m.member (m.place, m.stands) r n.0 i read o (j, e))))
    where
      go : (q : Option Entry) → old.is_overwritten k r q v ≡ true → (o : Option Entry) → same_source q o ≡ true → overwrites t told r v o ≡ true
      go None g None e = g
      go None g (Some u) e = let z : ⊥ = cc in absurd z
      go (Some w) g None e = let z : ⊥ = cc in absurd z
      go (Some w) g (Some u) e = co-named w u v e g

  -- ---- edges

  relation-told : (r : Relation) (x y : Entry) → IsIn (events_of t) x → IsIn (events_of t) y → old_edges.relates t k r x y ≡ true
      → relates t told r x y ≡ true
  relation-told Po x y i j h = h
  relation-told PoLoc x y i j h = h
  relation-told PoGhb x y i j h = h
  relation-told Mfence x y i j h = h
  relation-told Implied x y i j h = h
  relation-told Rf x y i j h = rf-told x y j h
  relation-told Rfe x y i j h =
      let m = and-both (old.reads_from k x y) (not (x.core.0 == y.core.0)) h in
      and-of (reads_from t told x y) _ (rf-told x y j m.0) m.1
  relation-told Co x y i j h = let m = co-told x y h in and-of (is_write x) _ m.1 m.0
  relation-told Fr x y i j h = fr-told x y i h

  edge-told : (rs : List Relation) (x y : Entry) → IsIn (events_of t) x → IsIn (events_of t) y → old_edges.is_edge t k rs x y ≡ true
      → is_edge t told rs x y ≡ true
  edge-told [] x y i j h = h
  edge-told (r ∷ rs) x y i j h = elim (or-either (old_edges.relates t k r x y) (old_edges.is_edge t k rs x y) h) [
    | inl g ↦ or-first (relates t told r x y) _ (relation-told r x y i j g)
    | inr g ↦ or-second (relates t told r x y) _ (edge-told rs x y i j g)
  ]

  pub between-told : (r v w : Entry) → IsIn (events_of t) r → old_edges.is_between t k r v w ≡ true → is_between t told r v w ≡ true
  between-told r v w i h =
      let a = and-both _ (old.comes_before k v w) h in
      let b = and-both _ (old.from_reads k r v) a.0 in
      and-of _ (comes_before t facts told.readings v w) (and-of _ (from_reads t told r v) b.0 (fr-told r v i b.1)) (co-told v w a.1).0

  -- ---- rows

  forward-told : (rs : List Relation) (row : List Entry) → ((x : Entry) → IsIn row x → IsIn (events_of t) x) → GoesForward (Edge (is_edge t told rs)) row
      → GoesForward (Edge (old_edges.is_edge t k rs)) row
  forward-told rs [] inside f = tt
  forward-told rs (x ∷ xs) inside f = (
    (λ y j h. f.0 y j (edge-told rs y x (inside y (in-later x xs y j)) (inside x (in-first x xs x refl)) h)),
    forward-told rs xs (λ y j. inside y (in-later x xs y j)) f.1,
  )

  pub ordered-told : (rs : List Relation) → Ordered (Edge (is_edge t told rs)) (events_of t) → Ordered (Edge (old_edges.is_edge t k rs)) (events_of t)
  ordered-told rs o = record {
    in_a_row = record {
      row = o.in_a_row.row;
      forward = forward-told rs o.in_a_row.row o.in_a_row.outside o.in_a_row.forward;
      inside = o.in_a_row.inside;
      outside = o.in_a_row.outside;
      count = o.in_a_row.count;
    };
    never_itself = λ x i h. o.never_itself x i (edge-told rs x x i i h);
  }
