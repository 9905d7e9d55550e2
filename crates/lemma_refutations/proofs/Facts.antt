-- Lists of facts that are met, and what facts of a branch give.
use Rattle.lemma_refutations.proofs.Vocabulary.{◌≡◌, ◌==◌, ℕ, zero, suc, Bool, true, false, not, List, [], ◌∷◌, ◌++◌, length, Option, Some}
use Rattle.lemma_refutations.proofs.Vocabulary.{None, refl, sym, ap, ◌∙◌, subst, slice_get, list_any, list_all, Litmus, Entry, IsIn}
use Rattle.lemma_refutations.proofs.Vocabulary.{Candidate, events, is_read, is_write, writes_to, and-both, sound, IsAllowed, is_event}
use Rattle.lemma_refutations.proofs.Vocabulary.{last-is-in, writes-at, last_writes, is_last, HasLastWrite, Last, bare, events_of}
use Rattle.lemma_refutations.proofs.Vocabulary.{same_event, IsSameSource, last_in, can_be, same_number, Fact, From, Before, ReturnsValue}
use Rattle.lemma_refutations.proofs.Vocabulary.{Holds, values_read, sources_read, same_source, reads_it, comes_before, holds_in, IsMet}
use Rattle.lemma_refutations.proofs.Vocabulary.{AreMet, Knowledge, known_from, allows, is_known}
use Rattle.refutation_laws.proofs.Standing.{same-bare, standing}
use Rattle.refutation_laws.proofs.Soundness.{bare-same}
use Rattle.refutation_laws.proofs.Cycles.{carried-one}
use Rattle.refutation_laws.proofs.Tests.{from-not, clash}
use Rattle.lemma_refutations.proofs.Lists.{all-at, any-at}
use Rattle.lemma_refutations.proofs.Below.{Laws}
use Rattle.lemma_refutations.proofs.Agreeing.{among, has-co}
use Rattle.lemma_refutations.proofs.Claims.{can-test, number-test, claim-allowed}

pub met-both : (t : Litmus) (c : Candidate) (fs gs : List Fact) → AreMet t c fs → AreMet t c gs → AreMet t c (fs ++ gs)
met-both t c [] gs m n = n
met-both t c (f ∷ fs) gs m n = (m.0, met-both t c fs gs m.1 n)

pub met-at : (t : Litmus) (c : Candidate) (fs : List Fact) (i : ℕ) (f : Fact) → AreMet t c fs → slice_get fs i ≡ Some f → IsMet t c f
met-at t c [] i f m e = let z : ⊥ = cc in absurd z
met-at t c (g ∷ gs) zero f m e = let q : g ≡ f = cc in subst (IsMet t c) q m.0
met-at t c (g ∷ gs) (suc i) f m e = met-at t c gs i f m.1 e

-- ---- sources

pub same-through : (o p s : Option Entry) → same_source o p ≡ true → IsSameSource p s → IsSameSource o s
same-through None None None q h = tt
same-through None None (Some z) q h = absurd h
same-through None (Some v) s q h = let z : ⊥ = cc in absurd z
same-through (Some w) None s q h = let z : ⊥ = cc in absurd z
same-through (Some w) (Some v) None q h = absurd h
same-through (Some w) (Some v) (Some z) q h = same-bare w v q ∙ h

pub same-to : (o p s : Option Entry) → IsSameSource o s → IsSameSource p s → same_source o p ≡ true
same-to None None s a b = refl
same-to None (Some v) None a b = absurd b
same-to None (Some v) (Some z) a b = absurd a
same-to (Some w) None None a b = absurd a
same-to (Some w) None (Some z) a b = absurd b
same-to (Some w) (Some v) None a b = absurd a
same-to (Some w) (Some v) (Some z) a b = bare-same w v (a ∙ sym b)

-- ---- facts that others give

module _ (laws : Laws) (t : Litmus) (c : Candidate) (allowed : IsAllowed t c) (facts : List Fact) (met : AreMet t c facts) where
  abbrev told : Knowledge
  told = known_from t facts

  either : (x b : Bool) → (x ≡ not b → ⊥) → x ≡ b
  either true true h = refl
  either true false h = absurd (h refl)
  either false true h = absurd (h refl)
  either false false h = refl

  of-some : (x y : Entry) → Some x ≡ Some y → x ≡ y
  of-some x y h = cc

  last-write : (loc : ℕ) (x : Entry) → IsIn (events t c) x → writes_to loc x ≡ true → HasLastWrite t c facts told.readings loc
  last-write loc x i to = laws.last t c facts (length (events_of t)) loc x allowed met i to

  known-met : (f : Fact) → is_known t told f ≡ true → IsMet t c f
  known-met (From read write true) h = λ r a.
      let m = and-both (is_read read) (reads_it t told.readings write read) h in
      let s = among laws.possible laws.ordered t c allowed facts met read r a m.0 in
      same-through write s.source (c.source r) (all-at (same_source write) (sources_read t told.readings read) s.number s.source m.1 s.among) s.same
  known-met (From read write false) h = λ r a e.
      let m = and-both (is_read read) (not (list_any (same_source write) (sources_read t told.readings read))) h in
      let s = among laws.possible laws.ordered t c allowed facts met read r a m.0 in
      clash _ (any-at (same_source write) (sources_read t told.readings read) s.number s.source s.among (same-to write s.source (c.source r) e s.same))
      (from-not (list_any (same_source write) (sources_read t told.readings read)) m.1)
  known-met (Before first second) h = λ w v a b.
      let m = and-both (is_write first) (comes_before t facts told.readings first second) h in
      has-co laws.possible laws.ordered t c allowed facts met first second w v m.1 (carried-one t c is_write (λ y. refl) first w a m.0) a b
  known-met (Last write true) h =
      let m = and-both _ (is_last t facts told.readings write) h in
      let n = and-both (is_event t write) (is_write write) m.0 in
      let st = standing t c write n.0 in
      let to : writes_to write.loc.0 st.entry ≡ true =
      writes-at write.loc.0 st.entry (carried-one t c is_write (λ y. refl) write st.entry st.stands n.1) (ap (λ (z : Entry). z.loc.0) (sym st.stands.same)) in
      let l = last-write write.loc.0 st.entry st.stands.inside to in
      let same : same_event write l.among.event ≡ true =
      all-at (same_event write) (last_writes t facts told.readings write.loc.0) l.among.number l.among.event m.1 l.among.among in
      subst (IsSameSource (Some write)) (sym l.is_last) (same-bare write l.among.event same ∙ l.among.same)
  known-met (Last write false) h = not-last (last_in (c.coherence write.loc.0)) refl
    where
      not-last : (o : Option Entry) → last_in (c.coherence write.loc.0) ≡ o → IsSameSource (Some write) o → ⊥
      not-last None e s = s
      not-last (Some z) e s =
          let i = (sound t c allowed.candidate).coherent write.loc.0 z (last-is-in (c.coherence write.loc.0) z e) in
          let l = last-write write.loc.0 z i.0 i.1 in
          clash _ (any-at (same_event write) (last_writes t facts told.readings write.loc.0) l.among.number l.among.event l.among.among
          (bare-same write l.among.event (s ∙ (ap bare (of-some z l.write (sym e ∙ l.is_last)) ∙ sym l.among.same))))
          (from-not (list_any (same_event write) (last_writes t facts told.readings write.loc.0)) h)
  known-met (ReturnsValue read value truth) h = λ r a.
      let m = and-both (is_read read) (not (can_be (values_read told.readings read) (same_number (not truth) value))) h in
      let p = laws.possible t c facts (length (events_of t)) read r allowed met a (carried-one t c is_read (λ y. refl) read r a m.0) in
      either (r.value == value) truth (λ e.
      clash _ (can-test (values_read told.readings read) r.value (same_number (not truth) value) p.value (number-test r.value value (not truth) e))
      (from-not (can_be (values_read told.readings read) (same_number (not truth) value)) m.1))
  known-met (Holds claim truth) h =
      either (holds_in t c claim) truth (λ e.
      clash _ (claim-allowed laws.words laws.registers t c allowed facts met claim (not truth) e) (from-not (allows t told claim (not truth)) h))

  pub all-known-met : (fs : List Fact) → list_all (is_known t told) fs ≡ true → AreMet t c fs
  all-known-met [] h = tt
  all-known-met (f ∷ fs) h = let m = and-both (is_known t told f) (list_all (is_known t told) fs) h in (known-met f m.0, all-known-met fs m.1)
