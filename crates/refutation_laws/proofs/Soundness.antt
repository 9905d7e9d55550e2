-- A refuted claim is false of each allowed candidate: at each node, the candidate has one of the answers.
use Rattle.refutation_laws.proofs.Vocabulary.{◌≡◌, ◌==◌, ◌&&◌, Bool, true, false, not, List, [], ◌∷◌, ◌++◌, length, Option, Some, None}
use Rattle.refutation_laws.proofs.Vocabulary.{refl, sym, ap, ◌∙◌, ◌⊎◌, inl, inr, subst, map, filter, Litmus, Claim, truth_of, NamesExist}
use Rattle.refutation_laws.proofs.Vocabulary.{is_read, is_write, writes_to, Entry, IsIn, IsEarlier, Candidate, words_left, registers_left}
use Rattle.refutation_laws.proofs.Vocabulary.{IsBefore, IsAllowed, in-case, in-none, filter-in, and-both, number-same, at-itself, location}
use Rattle.refutation_laws.proofs.Vocabulary.{writes-at, one-way, Sound, sound, tso-allows, Known, bare, events_of, same_event, is_event}
use Rattle.refutation_laws.proofs.Vocabulary.{nothing, with_source, with_pair, allows, Stands, IsSameSource, Agrees, IsAllowedBy, Model}
use Rattle.refutation_laws.proofs.Vocabulary.{Tso, Sequential, Node, ComesFirst, OnLocation, Globally, Between, FalseClaim, sources_of}
use Rattle.refutation_laws.proofs.Vocabulary.{is_node, branches, close, refutes}
use Rattle.refutation_laws.specs.Refutations.{ReadsFrom}
use Rattle.refutation_laws.proofs.Standing.{standing, event-in, one-stands}
use Rattle.refutation_laws.proofs.Agreeing.{source-in}
use Rattle.refutation_laws.proofs.Cycles.{carried-one, no-cycle-on-location, no-cycle-globally, none-between}
use Rattle.refutation_laws.proofs.ClaimFacts.{claim-allowed}

pub itself : (x : Entry) → same_event x x ≡ true
itself x = subst (λ b. (b && (x.loc.0 == x.loc.0)) ≡ true) (sym (at-itself x)) (number-same x.loc.0 x.loc.0 refl)

pub bare-same : (x y : Entry) → bare x ≡ bare y → same_event x y ≡ true
bare-same x y h = subst (λ z. same_event (bare x) z ≡ true) h (itself (bare x))

-- what a model allows, x86-TSO allows
pub as-tso : (model : Model) (t : Litmus) (c : Candidate) → IsAllowedBy model t c → IsAllowed t c
as-tso Tso t c a = a
as-tso Sequential t c a = tso-allows t c a

module _ (model : Model) (t : Litmus) (c : Candidate) (allowed : IsAllowedBy model t c) (claim : Claim)
    (names : NamesExist (length t.programs) (length t.words) claim) where
  tso : IsAllowed t c
  tso = as-tso model t c allowed

  abbrev d : Sound t c
  d = sound t c tso.candidate

  abbrev Fails : Type 0
  Fails = truth_of (registers_left t c) (words_left t c) claim ≡ false

  -- the claim fails if the candidate agrees with one of these cases
  abbrev Shut : List Known → Type 0
  Shut [] = Unit {0}
  Shut (k ∷ ks) = (Agrees t c k → Fails) × Shut ks

  shut-left : (xs ys : List Known) → Shut (xs ++ ys) → Shut xs
  shut-left [] ys s = tt
  shut-left (x ∷ xs) ys s = (s.0, shut-left xs ys s.1)

  shut-right : (xs ys : List Known) → Shut (xs ++ ys) → Shut ys
  shut-right [] ys s = s
  shut-right (x ∷ xs) ys s = shut-right xs ys s.1

  -- ---- which write a read reads from

  from-one : (k : Known) (r : Entry) (ws : List Entry) → Shut (map (with_source k r) (map (λ w. Some w) ws)) → (w : Entry) → IsIn ws w
      → Agrees t c (with_source k r (Some w)) → Fails
  from-one k r [] s w i a = absurd (in-none w i)
  from-one k r (v ∷ vs) s w i a =
      elim (in-case v vs w i) [ inl q ↦ s.0 (subst (λ z. Agrees t c (with_source k r (Some z))) q a) | inr j ↦ from-one k r vs s.1 w j a ]

  by-source : (k : Known) (r : Entry) → is_event t r ≡ true → is_read r ≡ true → Shut (map (with_source k r) (sources_of t r))
      → Agrees t c k → Fails
  by-source k r e read s a = go (c.source x) refl
    where
      x : Entry
      x = (standing t c r e).entry

      at : Stands t c r x
      at = (standing t c r e).stands

      reads : is_read x ≡ true
      reads = carried-one t c is_read (λ y. refl) r x at read

      agreeing : (o : Option Entry) → IsSameSource o (c.source x) → Agrees t c (with_source k r o)
      agreeing o h = record {
        sources = (
          (λ y b. let q : x ≡ y = one-stands t c d r x y at b in
              subst (λ z. (is_read z ≡ true) × IsSameSource o (c.source z)) q (reads, h)),
          a.sources,
        );
        order = a.order;
      }

      go : (o : Option Entry) → c.source x ≡ o → Fails
      go None q = s.0 (agreeing None (subst (IsSameSource None) (sym q) tt))
      go (Some z) q =
          let i = source-in t c tso.candidate x z at.inside reads q in
          let to : writes_to r.loc.0 (bare z) ≡ true = subst (λ (y : Entry). writes_to y.loc.0 (bare z) ≡ true) (sym at.same) i.1 in
          from-one k r (filter (writes_to r.loc.0) (events_of t)) s.1 (bare z)
          (filter-in (writes_to r.loc.0) (events_of t) (bare z) (event-in t c z i.0) to)
          (agreeing (Some (bare z)) (subst (IsSameSource (Some (bare z))) (sym q) refl))

  -- ---- which of two writes comes first

  paired : (k : Known) (w v x y : Entry) → Stands t c w x → Stands t c v y → IsBefore c x y → Agrees t c k → Agrees t c (with_pair k w v)
  paired k w v x y a b h g = record {
    sources = g.sources;
    order = (
      (λ m n p q. subst (λ z. IsBefore c z n) (one-stands t c d w x m a p) (subst (IsBefore c x) (one-stands t c d v y n b q) h)),
      g.order,
    );
  }

  by-order : (k : Known) (w v : Entry) → is_event t w ≡ true → is_event t v ≡ true → is_write w ≡ true → writes_to w.loc.0 v ≡ true
      → not (same_event w v) ≡ true → Shut (with_pair k w v ∷ (with_pair k v w ∷ [])) → Agrees t c k → Fails
  by-order k w v e f write to far s a =
      go (one-way (c.coherence w.loc.0) x y (tso.candidate.writes w.loc.0 x at.inside atx) (tso.candidate.writes w.loc.0 y by.inside toy))
    where
      x : Entry
      x = (standing t c w e).entry

      at : Stands t c w x
      at = (standing t c w e).stands

      y : Entry
      y = (standing t c v f).entry

      by : Stands t c v y
      by = (standing t c v f).stands

      same-loc : x.loc.0 ≡ w.loc.0
      same-loc = ap (λ (z : Entry). z.loc.0) (sym at.same)

      atx : writes_to w.loc.0 x ≡ true
      atx = writes-at w.loc.0 x (carried-one t c is_write (λ z. refl) w x at write) same-loc

      toy : writes_to w.loc.0 y ≡ true
      toy = carried-one t c (writes_to w.loc.0) (λ z. refl) v y by to

      apart : x ≡ y → ⊥
      apart q =
          let h : same_event w v ≡ true = bare-same w v (at.same ∙ (ap bare q ∙ sym by.same)) in
          let z : ⊥ = cc in z

      go : (x ≡ y) ⊎ (IsEarlier (c.coherence w.loc.0) x y ⊎ IsEarlier (c.coherence w.loc.0) y x) → Fails
      go (inl q) = absurd (apart q)
      go (inr (inl l)) = s.0 (paired k w v x y at by (subst (λ n. IsEarlier (c.coherence n) x y) (sym same-loc) l) a)
      go (inr (inr l)) =
          s.1.0 (paired k v w y x by at (subst (λ n. IsEarlier (c.coherence n) y x) (sym (location w.loc.0 y toy)) l) a)

  -- ---- the tree

  at-node : (k : Known) (n : Node) → is_node model t claim k n ≡ true → Shut (branches t k n) → Agrees t c k → Fails
  at-node k (ReadsFrom r) h s a = let m = and-both (is_event t r) (is_read r) h in by-source k r m.0 m.1 s a
  at-node k (ComesFirst w v) h s a =
      let m = and-both _ (not (same_event w v)) h in
      let n = and-both _ (writes_to w.loc.0 v) m.0 in
      let p = and-both _ (is_write w) n.0 in
      let q = and-both (is_event t w) (is_event t v) p.0 in
      by-order k w v q.0 q.1 p.1 n.1 m.1 s a
  at-node k (OnLocation cycle) h s a = absurd (no-cycle-on-location t c d k a tso cycle h)
  at-node k (Globally cycle) h s a = absurd (no-cycle-globally t c d k a model allowed cycle h)
  at-node k (Between r v w) h s a = absurd (none-between t c d k a tso.atomic r v w h)
  at-node k FalseClaim h s a =
      go (truth_of (registers_left t c) (words_left t c) claim) refl
    where
      go : (b : Bool) → truth_of (registers_left t c) (words_left t c) claim ≡ b → Fails
      go false q = q
      go true q =
          let z : allows t k claim true ≡ true = claim-allowed t c d k a claim names true q in
          let w : ⊥ = cc in absurd w

  shut : (ks : List Known) (ns : List Node) → close model t claim ks ns ≡ true → Shut ks
  shut [] ns h = tt
  shut (k ∷ ks) [] h = let z : ⊥ = cc in absurd z
  shut (k ∷ ks) (n ∷ ns) h =
      let m = and-both (is_node model t claim k n) (close model t claim (branches t k n ++ ks) ns) h in
      let s = shut (branches t k n ++ ks) ns m.1 in
      ((λ a. at-node k n m.0 (shut-left (branches t k n) ks s) a), shut-right (branches t k n) ks s)

  pub refuted-is-false : (ns : List Node) → refutes model t claim ns ≡ true → truth_of (registers_left t c) (words_left t c) claim ≡ false
  refuted-is-false ns h = (shut (nothing ∷ []) ns h).0 (record { sources = tt; order = tt })
