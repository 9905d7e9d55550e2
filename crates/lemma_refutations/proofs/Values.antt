-- In a full case with no cycle each read's values are at most the one that the case's candidate returns, after so many rounds as its
-- place in a row of the model's global relation says; and so are each write's.
use Rattle.lemma_refutations.proofs.Vocabulary.{◌≡◌, ◌<◌, ℕ, zero, suc, true, List, [], ◌∷◌, length, Option, Some, None, slice_get}
use Rattle.lemma_refutations.proofs.Vocabulary.{slice_index, map, arith, refl, sym, ap, ◌∙◌, inl, inr, subst, Litmus, Entry, IsIn, at_once}
use Rattle.lemma_refutations.proofs.Vocabulary.{onward, Candidate, Returns, IsAllowed, is_access, is_before, is_read, is_write, writes_to}
use Rattle.lemma_refutations.proofs.Vocabulary.{location, share, writes, write-is-no-read, bare, events_of, on_location, Model, Fact}
use Rattle.lemma_refutations.proofs.Vocabulary.{Values, Reading, values_read, same_source, values_of, values_written, readings_after}
use Rattle.lemma_refutations.proofs.Vocabulary.{Expression, expression_of}
use Rattle.possible_reads.specs.Possible.{sources_after, values_from, any_of, may_return, told_value, counts, both_of}
use Rattle.refutation_laws.proofs.Vocabulary.{Known, IsPossibleSource, is_write_of, reads_from, is_edge, rank, part_of, part-small}
use Rattle.refutation_laws.proofs.Vocabulary.{rank-before, before-trans, order-of, halves}
use Rattle.refutation_laws.specs.declared.known.Source.{Source}
use Rattle.relational_model.proofs.Decisions.{number}
use Rattle.refutation_laws.proofs.Standing.{Of, of-event, same-bare}
use Rattle.refutation_laws.proofs.Soundness.{bare-same}
use Rattle.refutation_laws.proofs.Tests.{and-of, or-first, or-second}
use Rattle.refutation_laws.proofs.Relating.{edge-by, of-bare}
use Rattle.refutation_laws.proofs.Rows.{ordered-acyclic, Edge}
use Rattle.refutation_laws.proofs.Building.{same-place}
use Rattle.refutation_laws.proofs.Settling.{IsOpen, First, found, entry_of, own_events, own_reads, own_candidate, own-in, place, within}
use Rattle.refutation_laws.proofs.Settling.{edge-places, one-own, first-source, read-edge, other-edge}
use Rattle.lemma_refutations.proofs.Programs.{related-write, same-expression}
use Rattle.lemma_refutations.proofs.Single.{AtMost, exactly-one, any-most, both-most, kept-most, most-relates}
use Rattle.lemma_refutations.proofs.Covering.{Covers, values-after, fits, named}

module _ (model : Model) (t : Litmus) (k : Known) (o : IsOpen model t k) (allowed : IsAllowed t (own_candidate model t k o))
    (given facts : List Fact) (covers : Covers given k facts) where
  abbrev es : List Entry
  es = own_events model t k o

  abbrev c : Candidate
  c = own_candidate model t k o

  abbrev table : ℕ → List Reading
  table m = readings_after t facts m

  -- an expression's values are at most this number
  abbrev Rel : ℕ → Expression → ℕ → Type 0
  Rel m e n = AtMost n (values_of (values_read (table m)) e)

  -- ---- what comes before a read

  read-access : (x : Entry) → is_read x ≡ true → is_access x ≡ true
  read-access x r = or-first (is_read x) (is_write x) r

  write-access : (x : Entry) → is_write x ≡ true → is_access x ≡ true
  write-access x w = or-second (is_read x) (is_write x) w

  -- a source in the program of its read comes before it
  before-read : (x y : Entry) → IsIn es x → IsIn es y → is_read x ≡ true → writes_to x.loc.0 y ≡ true → reads_from k y x ≡ true
      → y.core.0 ≡ x.core.0 → is_before y x ≡ true
  before-read x y i j r w f e = elim (order-of (rank y) (rank x)) [
    | inl l ↦ rank-before y x e l
    | inr (inl q) ↦
        let s = halves y.place (part_of y.kind) x.place (part_of x.kind) (part-small y.kind) (part-small x.kind) q in
        let same : y ≡ x = same-place t (own_reads model t k o) y x j i e s.0 s.1 in
        absurd (write-is-no-read y is-write (subst (λ z. is_read z ≡ true) (sym same) r))
    | inr (inr l) ↦
        absurd (ordered-acyclic (Edge (is_edge t k on_location)) (events_of t) o.within_locations (bare x)
        (onward (bare x) (bare y) (bare x) (own-in model t k o x i)
        (of-bare t k on_location x y (edge-by t k on_location x y (inl (and-of (is_before x y) _ (rank-before x y (sym e) l)
        (share x y (read-access x r) (write-access y is-write) (sym (location x.loc.0 y w)))))))
        (at_once (bare y) (bare x) (own-in model t k o y j) (own-in model t k o x i)
        (of-bare t k on_location y x (edge-by t k on_location y x (inr (inl f)))))))
  ]
    where
      is-write : is_write y ≡ true
      is-write = writes x.loc.0 y w

  -- a read before the source of a read x comes before x in the row
  earlier : (x y z : Entry) → IsIn es x → IsIn es y → IsIn es z → is_read x ≡ true → writes_to x.loc.0 y ≡ true → reads_from k y x ≡ true
      → is_read z ≡ true → is_before z y ≡ true → (i j : ℕ) → slice_get o.globally.in_a_row.row i ≡ Some (bare x)
      → slice_get o.globally.in_a_row.row j ≡ Some (bare z) → j < i
  earlier x y z ix iy iz rx w f rz b i j p q = elim (number y.core.0 x.core.0) [
    | inl e ↦
        edge-places model t k o z x j i q p (read-edge model t k z x (before-trans z y x b (before-read x y ix iy rx w f e)) rz (read-access x rx))
    | inr n ↦
        let at = place model t k o y iy in
        let l : j < at.0 = edge-places model t k o z y j at.0 q at.1 (read-edge model t k z y b rz (write-access y (writes x.loc.0 y w))) in
        let m : at.0 < i = edge-places model t k o y x at.0 i at.1 p (other-edge model t k y x f n) in
        omega (arith, l, m)
  ]

  -- ---- a read

  abbrev Settled : Entry → ℕ → Type 0
  Settled x i = (m : ℕ) → i < m → AtMost x.value (values_read (table m) (bare x))

  settle : (i : ℕ)
      → ((j : ℕ) → j < i → (z : Entry) → IsIn es z → is_read z ≡ true → slice_get o.globally.in_a_row.row j ≡ Some (bare z) → Settled z j)
      → (x : Entry) → IsIn es x → is_read x ≡ true → slice_get o.globally.in_a_row.row i ≡ Some (bare x) → Settled x i
  settle i below x ix rx at zero l = absurd (omega arith)
  settle i below x ix rx at (suc m) l =
      subst (AtMost x.value) (sym (values-after t facts (bare x) (own-in model t k o x ix) rx m))
      (kept-most x.value (may_return facts (bare x)) (values (sources_after t facts (table m) (bare x)))
      (both-most x.value (any_of (map (values_from t (table m) (bare x)) (sources_after t facts (table m) (bare x))))
      (both_of (told_value facts (bare x)) (counts t facts (table m) (bare x)))
      (any-most x.value (values_from t (table m) (bare x)) (sources_after t facts (table m) (bare x)) each)))
    where
      values : List (Option Entry) → Values
      values sources =
          both_of (any_of (map (values_from t (table m) (bare x)) sources)) (both_of (told_value facts (bare x)) (counts t facts (table m) (bare x)))

      f : First t k.sources x
      f = first-source model t k o x ix rx

      -- from what the case names
      from : (s r : Option Entry) → f.source.write ≡ s → same_source s r ≡ true → AtMost x.value (values_from t (table m) (bare x) r)
      from None (Some v) q h = let z : ⊥ = cc in absurd z
      from (Some w) None q h = let z : ⊥ = cc in absurd z
      from None None q h = subst (λ n. AtMost n (Some (slice_index t.words x.loc.0 ∷ []))) (sym v) (exactly-one (slice_index t.words x.loc.0))
        where
          src : c.source x ≡ None
          src = f.from es ∙ ap (λ s. entry_of es s) q

          v : x.value ≡ slice_index t.words x.loc.0
          v = subst (λ s. Returns t c x s) src (allowed.candidate.reads x ix rx)
      from (Some w) (Some v) q h =
          subst (λ n. AtMost n (values_written t (table m) v)) (sym value)
          (subst (λ e. AtMost y.value (values_of (values_read (table m)) e)) (sym expression) written)
        where
          p : IsPossibleSource t f.source.read (Some w)
          p = subst (λ s. IsPossibleSource t f.source.read s) q f.possible

          of : Of es w
          of = of-event t c w p.0

          y : Entry
          y = of.entry

          iy : IsIn es y
          iy = of.inside

          same : bare w ≡ bare y
          same = ap bare of.same

          src : c.source x ≡ Some y
          src =
              f.from es
              ∙ (ap (λ s. entry_of es s) q ∙ found es w y (λ z iz h. one-own model t k o z y iz iy h) same iy)

          returns : Returns t c x (Some y)
          returns = subst (λ s. Returns t c x s) src (allowed.candidate.reads x ix rx)

          value : x.value ≡ y.value
          value = returns.2

          reads : reads_from k y x ≡ true
          reads = f.among (λ (s : Source). is_write_of y s.write) (subst (λ s. is_write_of y s ≡ true) (sym q) (bare-same w y same))

          expression : expression_of t v ≡ expression_of t (bare y)
          expression = same-expression t v ∙ ap (expression_of t) (sym (same-bare w v h) ∙ same)

          written : AtMost y.value (values_of (values_read (table m)) (expression_of t (bare y)))
          written =
              related-write (Rel m) (most-relates (values_read (table m)))
              t (own_reads model t k o) y iy (writes x.loc.0 y returns.1)
              (λ z iz rz b.
              let pz = place model t k o z iz in
              let n : pz.0 < i = earlier x y z ix iy iz rx returns.1 reads rz b i pz.0 at pz.1 in
              below pz.0 n z iz rz pz.1 m (omega (arith, n, l)))

      each : (j : ℕ) (s : Option Entry) → slice_get (sources_after t facts (table m) (bare x)) j ≡ Some s
          → AtMost x.value (values_from t (table m) (bare x) s)
      each j s e = from f.source.write s refl (named t given k facts covers x f s (fits t facts (bare x) (own-in model t k o x ix) rx m s (j, e)))

  settled-to : (n i : ℕ) → i < n → (x : Entry) → IsIn es x → is_read x ≡ true → slice_get o.globally.in_a_row.row i ≡ Some (bare x) → Settled x i
  settled-to zero i l x ix rx at = absurd (omega arith)
  settled-to (suc n) i l x ix rx at = settle i (λ j m z iz rz q. settled-to n j (omega (arith, l, m)) z iz rz q) x ix rx at

  -- ---- after all rounds

  pub read-most : (x : Entry) → IsIn es x → is_read x ≡ true → AtMost x.value (values_read (table (length (events_of t))) (bare x))
  read-most x ix rx =
      let p = place model t k o x ix in
      settled-to (suc p.0) p.0 (omega arith) x ix rx p.1 (length (events_of t)) (within model t k o p.0 (bare x) p.1)

  pub write-most : (y : Entry) → IsIn es y → is_write y ≡ true → AtMost y.value (values_written t (table (length (events_of t))) (bare y))
  write-most y iy wy =
      related-write (Rel (length (events_of t))) (most-relates (values_read (table (length (events_of t)))))
      t (own_reads model t k o) y iy wy (λ z iz rz b. read-most z iz rz)
