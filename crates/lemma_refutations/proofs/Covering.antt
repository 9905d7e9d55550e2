-- Facts that hold all answers of a case, and what they leave of each read's sources: what the case answers, or nothing.
use Rattle.lemma_refutations.proofs.Vocabulary.{◌≡◌, ◌&&◌, ℕ, zero, suc, Bool, true, false, if◌then◌else◌, List, [], ◌∷◌, Option, Some}
use Rattle.lemma_refutations.proofs.Vocabulary.{None, refl, sym, ap, ◌∙◌, ◌⊎◌, inl, inr, subst, slice_get, map, filter, list_all, Litmus}
use Rattle.lemma_refutations.proofs.Vocabulary.{Entry, IsIn, is_read, is_write, writes_to, in-case, in-none, in-first, in-later, in-filter}
use Rattle.lemma_refutations.proofs.Vocabulary.{filter-in, and-both, bare, events_of, same_event, sources_of, Fact, From, Before, Reading}
use Rattle.lemma_refutations.proofs.Vocabulary.{values_read, sources_read, same_source, readings_after}
use Rattle.possible_reads.specs.Possible.{reading_after, sources_after, can_read_from, fits_source}
use Rattle.refutation_laws.proofs.Vocabulary.{Known, IsPossibleSource}
use Rattle.refutation_laws.specs.declared.known.Source.{Source}
use Rattle.refutation_laws.specs.declared.known.Pair.{Pair}
use Rattle.refutation_laws.proofs.Standing.{same-bare}
use Rattle.refutation_laws.proofs.Soundness.{itself, bare-same}
use Rattle.refutation_laws.proofs.Settling.{First}
use Rattle.refutation_laws.proofs.Tests.{pick}
use Rattle.lemma_refutations.proofs.Lists.{Has, any-picked, all-at, filter-at, image-at}

pub record Covers (given : List Fact) (k : Known) (facts : List Fact) : Type 0 where
  pub from_start : (f : Fact) → Has given f → Has facts f
  pub sources : (s : Source) → Has k.sources s → Has facts (From s.read s.write true) × (is_read s.read ≡ true)
  pub pairs : (p : Pair) → Has k.order p → Has facts (Before p.first p.second) × (is_write p.first ≡ true)

-- ---- events stand for themselves

bare-of : (xs : List Entry) (e : Entry) → IsIn (map bare xs) e → e ≡ bare e
bare-of xs e i = let m = image-at bare xs i.0 e i.1 in m.same ∙ ap bare (sym m.same)

pub event-bare : (t : Litmus) (e : Entry) → IsIn (events_of t) e → e ≡ bare e
event-bare t e i = bare-of _ e i

pub one-event-of : (t : Litmus) (e r : Entry) → IsIn (events_of t) e → IsIn (events_of t) r → same_event e r ≡ true → e ≡ r
one-event-of t e r i j h = event-bare t e i ∙ (same-bare e r h ∙ sym (event-bare t r j))

-- ---- the reading of a read in a round's table

module _ (t : Litmus) (facts : List Fact) (before : List Reading) where
  abbrev made : List Entry → List Reading
  made xs = map (reading_after t facts before) xs

  values-at : (xs : List Entry) (r : Entry) → ((e : Entry) → IsIn xs e → same_event e r ≡ true → e ≡ r) → IsIn xs r
      → values_read (made xs) r ≡ (reading_after t facts before r).values
  values-at [] r one i = absurd (in-none r i)
  values-at (x ∷ xs) r one i = go (same_event x r) refl (in-case x xs r i) (λ j. values-at xs r (λ e l. one e (in-later x xs e l)) j)
    where
      go : (b : Bool) → same_event x r ≡ b → (r ≡ x) ⊎ IsIn xs r → (IsIn xs r → values_read (made xs) r ≡ (reading_after t facts before r).values)
          → (if b then (reading_after t facts before x).values else values_read (made xs) r) ≡ (reading_after t facts before r).values
      go true q c later = ap (λ z. (reading_after t facts before z).values) (one x (in-first x xs x refl) q)
      go false q (inl e) later =
          let h : same_event x r ≡ true = subst (λ z. same_event x z ≡ true) (sym e) (itself x) in
          let z : ⊥ = cc in absurd z
      go false q (inr j) later = later j

  sources-at : (xs : List Entry) (r : Entry) → ((e : Entry) → IsIn xs e → same_event e r ≡ true → e ≡ r) → IsIn xs r
      → sources_read t (made xs) r ≡ sources_after t facts before r
  sources-at [] r one i = absurd (in-none r i)
  sources-at (x ∷ xs) r one i = go (same_event x r) refl (in-case x xs r i) (λ j. sources-at xs r (λ e l. one e (in-later x xs e l)) j)
    where
      go : (b : Bool) → same_event x r ≡ b → (r ≡ x) ⊎ IsIn xs r → (IsIn xs r → sources_read t (made xs) r ≡ sources_after t facts before r)
          → (if b then sources_after t facts before x else sources_read t (made xs) r) ≡ sources_after t facts before r
      go true q c later = ap (sources_after t facts before) (one x (in-first x xs x refl) q)
      go false q (inl e) later =
          let h : same_event x r ≡ true = subst (λ z. same_event x z ≡ true) (sym e) (itself x) in
          let z : ⊥ = cc in absurd z
      go false q (inr j) later = later j

module _ (t : Litmus) (facts : List Fact) (r : Entry) (i : IsIn (events_of t) r) (read : is_read r ≡ true) where
  one-read : (e : Entry) → IsIn (filter is_read (events_of t)) e → same_event e r ≡ true → e ≡ r
  one-read e j h = one-event-of t e r (in-filter is_read (events_of t) e j).0 i h

  pub values-after : (m : ℕ) → values_read (readings_after t facts (suc m)) r ≡ (reading_after t facts (readings_after t facts m) r).values
  values-after m = values-at t facts (readings_after t facts m) (filter is_read (events_of t)) r one-read (filter-in is_read (events_of t) r i read)

  pub sources-after : (m : ℕ) → sources_read t (readings_after t facts (suc m)) r ≡ sources_after t facts (readings_after t facts m) r
  sources-after m = sources-at t facts (readings_after t facts m) (filter is_read (events_of t)) r one-read (filter-in is_read (events_of t) r i read)

  -- each source that is left is possible, and fits the facts
  possible-first : (s : Option Entry) → Has (sources_of t r) s → IsPossibleSource t r s
  possible-first None (j, e) = tt
  possible-first (Some w) (zero, e) = let z : ⊥ = cc in absurd z
  possible-first (Some w) (suc j, e) =
      let m = image-at (λ v. Some v) (filter (writes_to r.loc.0) (events_of t)) j (Some w) e in
      let q : w ≡ m.of = of-some w m.of m.same in
      in-filter (writes_to r.loc.0) (events_of t) w (subst (IsIn (filter (writes_to r.loc.0) (events_of t))) (sym q) m.inside)
    where
      of-some : (x y : Entry) → Some x ≡ Some y → x ≡ y
      of-some x y h = cc

  pub possible-source : (m : ℕ) (s : Option Entry) → Has (sources_read t (readings_after t facts m) r) s → IsPossibleSource t r s
  possible-source zero s h = possible-first s h
  possible-source (suc m) s (j, e) =
      let f = filter-at (can_read_from t facts (readings_after t facts m) r) (sources_read t (readings_after t facts m) r) j s
      (ap (λ xs. slice_get xs j) (sym (sources-after m)) ∙ e) in
      possible-source m s f.0

  pub fits : (m : ℕ) (s : Option Entry) → Has (sources_after t facts (readings_after t facts m) r) s → list_all (fits_source r s) facts ≡ true
  fits m s (j, e) =
      let f = filter-at (can_read_from t facts (readings_after t facts m) r) (sources_read t (readings_after t facts m) r) j s e in
      let a = and-both _ _ f.1 in
      let b = and-both _ _ a.0 in
      let n = and-both _ _ b.0 in
      (and-both (list_all (fits_source r s) facts) _ n.0).0

-- ---- what a case answers

same-itself : (o : Option Entry) → same_source o o ≡ true
same-itself None = refl
same-itself (Some w) = itself w

pub same-on : (o p s : Option Entry) → same_source o p ≡ true → same_source p s ≡ true → same_source o s ≡ true
same-on None None s a b = b
same-on None (Some w) s a b = let z : ⊥ = cc in absurd z
same-on (Some w) None s a b = let z : ⊥ = cc in absurd z
same-on (Some w) (Some v) None a b = let z : ⊥ = cc in absurd z
same-on (Some w) (Some v) (Some u) a b = bare-same w u (same-bare w v a ∙ same-bare v u b)

-- a source that fits an answer on its read is the one that is named there
pub fits-named : (r e : Entry) (o s : Option Entry) (facts : List Fact) → Has facts (From e o true) → same_event e r ≡ true
    → list_all (fits_source r s) facts ≡ true → same_source o s ≡ true
fits-named r e o s facts j same h =
    sym (pick (same_event e r) (same_source o s) true same) ∙ all-at (fits_source r s) facts j.0 (From e o true) h j.1

module _ (t : Litmus) (given : List Fact) (k : Known) (facts : List Fact) (covers : Covers given k facts) where
  -- a source that fits is the one that the case names
  pub named : (r : Entry) (f : First t k.sources r) (s : Option Entry) → list_all (fits_source (bare r) s) facts ≡ true → same_source f.source.write s ≡ true
  named r f s h =
      let m = any-picked (λ (q : Source). same_event q.read r && same_source f.source.write q.write) k.sources
      (f.among (λ (q : Source). same_source f.source.write q.write) (same-itself f.source.write)) in
      let n = and-both (same_event m.member.read r) (same_source f.source.write m.member.write) m.holds in
      same-on f.source.write m.member.write s n.1
      (fits-named (bare r) m.member.read m.member.write s facts (covers.sources m.member (m.place, m.stands)).0 n.0 h)
