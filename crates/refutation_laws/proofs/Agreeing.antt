-- The edges that a candidate has which agrees with what is known.
use Rattle.refutation_laws.proofs.Vocabulary.{◌≡◌, ◌&&◌, true, List, [], ◌∷◌, Option, Some, None, refl, sym, ap, ◌∙◌, inl, inr, subst}
use Rattle.refutation_laws.proofs.Vocabulary.{list_any, Litmus, is_read, writes_to, Entry, IsIn, IsEarlier, Candidate, Returns, IsCandidate}
use Rattle.refutation_laws.proofs.Vocabulary.{events, ReadsFrom, IsBefore, StandsAfter, FromReads, and-both, or-either, location, Sound}
use Rattle.refutation_laws.proofs.Vocabulary.{Known, same_event, is_write_of, comes_before, is_overwritten, from_reads, Source, Pair}
use Rattle.refutation_laws.proofs.Vocabulary.{Stands, IsSameSource, HasSources, HasPairs, Agrees}
use Rattle.refutation_laws.proofs.Standing.{same-bare, one-entry}

pub stands-for : (t : Litmus) (c : Candidate) (d e x : Entry) → same_event d e ≡ true → Stands t c e x → Stands t c d x
stands-for t c d e x h s = record { inside = s.inside; same = same-bare d e h ∙ s.same }

-- ---- rf

from-write : (t : Litmus) (c : Candidate) → Sound t c → (w x : Entry) (o s : Option Entry) → IsSameSource o s → is_write_of w o ≡ true
    → Stands t c w x → ((z : Entry) → s ≡ Some z → IsIn (events t c) z) → s ≡ Some x
from-write t c k w x None s h q a inside = let z : ⊥ = cc in absurd z
from-write t c k w x (Some v) None h q a inside = absurd h
from-write t c k w x (Some v) (Some z) h q a inside =
    ap Some (one-entry t c k z x (inside z refl) a.inside (sym h ∙ (same-bare v w q ∙ a.same)))

-- the write that a read reads from is an event, to its location
pub source-in : (t : Litmus) (c : Candidate) → IsCandidate t c → (r z : Entry) → IsIn (events t c) r → is_read r ≡ true → c.source r ≡ Some z
    → IsIn (events t c) z × (writes_to r.loc.0 z ≡ true)
source-in t c k r z i read q =
    let h : Returns t c r (Some z) = subst (λ s. Returns t c r s) q (k.reads r i read) in (h.0, h.1)

pub has-rf : (t : Litmus) (c : Candidate) → Sound t c → (ss : List Source) → HasSources t c ss → (w r x y : Entry)
    → list_any (λ (s : Source). same_event s.read r && is_write_of w s.write) ss ≡ true → Stands t c w x → Stands t c r y → ReadsFrom c x y
has-rf t c k [] h w r x y q a b = let z : ⊥ = cc in absurd z
has-rf t c k (s ∷ ss) h w r x y q a b =
    elim (or-either (same_event s.read r && is_write_of w s.write) _ q) [ inl l ↦ here l | inr l ↦ has-rf t c k ss h.1 w r x y l a b ]
  where
    here : (same_event s.read r && is_write_of w s.write) ≡ true → ReadsFrom c x y
    here l =
        let m = and-both (same_event s.read r) (is_write_of w s.write) l in
        let f = h.0 y (stands-for t c s.read r y m.0 b) in
        record {
          read = f.0;
          source =
              from-write t c k w x s.write (c.source y) f.1 m.1 a
              (λ z e. (source-in t c k.candidate y z b.inside f.0 e).0);
        }

-- ---- co

has-pair : (t : Litmus) (c : Candidate) (ps : List Pair) → HasPairs t c ps → (w v x y : Entry)
    → list_any (λ (p : Pair). same_event p.first w && same_event p.second v) ps ≡ true → Stands t c w x → Stands t c v y → IsBefore c x y
has-pair t c [] h w v x y q a b = let z : ⊥ = cc in absurd z
has-pair t c (p ∷ ps) h w v x y q a b =
    elim (or-either (same_event p.first w && same_event p.second v) _ q) [ inl l ↦ here l | inr l ↦ has-pair t c ps h.1 w v x y l a b ]
  where
    here : (same_event p.first w && same_event p.second v) ≡ true → IsBefore c x y
    here l =
        let m = and-both (same_event p.first w) (same_event p.second v) l in
        h.0 x y (stands-for t c p.first w x m.0 a) (stands-for t c p.second v y m.1 b)

pub has-co : (t : Litmus) (c : Candidate) (k : Known) → Agrees t c k → (w v x y : Entry) → comes_before k w v ≡ true
    → Stands t c w x → Stands t c v y → IsBefore c x y
has-co t c k h w v x y q a b = has-pair t c k.order h.order w v x y q a b

-- ---- fr

over : (t : Litmus) (c : Candidate) → Sound t c → (k : Known) → Agrees t c k → (r v x y : Entry) (o s : Option Entry) → IsSameSource o s
    → is_overwritten k r o v ≡ true → Stands t c r x → Stands t c v y
    → ((z : Entry) → s ≡ Some z → IsIn (events t c) z × (writes_to x.loc.0 z ≡ true)) → StandsAfter (c.coherence x.loc.0) s y
over t c d k h r v x y None None i q a b inside =
    d.candidate.writes x.loc.0 y b.inside
    (subst (λ (z : Entry). writes_to z.loc.0 y ≡ true) a.same (subst (λ (z : Entry). writes_to r.loc.0 z ≡ true) b.same q))
over t c d k h r v x y None (Some z) i q a b inside = absurd i
over t c d k h r v x y (Some w) None i q a b inside = absurd i
over t c d k h r v x y (Some w) (Some z) i q a b inside =
    let e = inside z refl in
    subst (λ l. IsEarlier (c.coherence l) z y) (location x.loc.0 z e.1)
    (has-co t c k h w v z y q (record { inside = e.0; same = i }) b)

has-over : (t : Litmus) (c : Candidate) → Sound t c → (k : Known) → Agrees t c k → (ss : List Source) → HasSources t c ss → (r v x y : Entry)
    → list_any (λ (s : Source). same_event s.read r && is_overwritten k r s.write v) ss ≡ true → Stands t c r x → Stands t c v y
    → FromReads c x y
has-over t c d k h [] g r v x y q a b = let z : ⊥ = cc in absurd z
has-over t c d k h (s ∷ ss) g r v x y q a b =
    elim (or-either (same_event s.read r && is_overwritten k r s.write v) _ q) [ inl l ↦ here l | inr l ↦ has-over t c d k h ss g.1 r v x y l a b ]
  where
    here : (same_event s.read r && is_overwritten k r s.write v) ≡ true → FromReads c x y
    here l =
        let m = and-both (same_event s.read r) (is_overwritten k r s.write v) l in
        let f = g.0 x (stands-for t c s.read r x m.0 a) in
        record {
          read = f.0;
          overwritten = over t c d k h r v x y s.write (c.source x) f.1 m.1 a b (λ z e. source-in t c d.candidate x z a.inside f.0 e);
        }

pub has-fr : (t : Litmus) (c : Candidate) → Sound t c → (k : Known) → Agrees t c k → (r v x y : Entry) → from_reads k r v ≡ true
    → Stands t c r x → Stands t c v y → FromReads c x y
has-fr t c d k h r v x y q a b = has-over t c d k h k.sources h.sources r v x y q a b
