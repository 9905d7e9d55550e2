-- What must come after the load part of a locked instruction must come after its store part.
use Rattle.relational_model.proofs.Vocabulary.{◌≡◌, ◌<◌, ℕ, ◌+◌, ◌||◌, true, arith, sym, ap, ◌∙◌, ◌⊎◌, inl, inr, subst, Litmus, is_before}
use Rattle.relational_model.proofs.Vocabulary.{is_read, is_write, writes_to, same_kind, Entry, R, W, LR, LW, IsIn, IsEarlier, at_once}
use Rattle.relational_model.proofs.Vocabulary.{onward, Candidate, events, IsBefore, ArePair, IsAllowed, is_locked, is_locked_kind, po_loc}
use Rattle.relational_model.proofs.Vocabulary.{fr, write_before_write, co, rank, part_of}
use Rattle.relational_model.proofs.Ranks.{before-rank, rank-before, order-of}
use Rattle.relational_model.proofs.KindFacts.{write-is-no-read, kept-with-locked, writes}
use Rattle.relational_model.proofs.Sources.{one-way}
use Rattle.relational_model.proofs.Uniproc.{writes-at}
use Rattle.relational_model.proofs.Decisions.{Goes, number}
use Rattle.relational_model.proofs.Events.{Sound, same-rank}
use Rattle.relational_model.proofs.Fences.{source-writes, after-writes, true-or}
use Rattle.relational_model.proofs.Order.{location, share}

next-rank : (p q a n : ℕ) → a ≡ 0 → p ≡ q → p + p + a < n → (q + q + 1 ≡ n) ⊎ (q + q + 1 < n)
next-rank p q a n e s l = grind arith

-- after the load part in its program is after the store part, or that itself
pub po-after : (t : Litmus) (c : Candidate) → Sound t c → (r w y : Entry) → IsIn (events t c) w → IsIn (events t c) y → ArePair r w
    → (y ≡ w → ⊥) → is_before r y ≡ true → is_before w y ≡ true
po-after t c s r w y j k p n b = go (next-rank r.place w.place (part_of r.kind) (rank y) (ap part_of p.read) p.place h.1)
  where
    h : (r.core.0 ≡ y.core.0) × (rank r < rank y)
    h = before-rank r y b

    of-w : rank w ≡ w.place + w.place + 1
    of-w = ap (λ a. w.place + w.place + a) (ap part_of p.write)

    core : w.core.0 ≡ y.core.0
    core = sym p.core ∙ h.0

    go : (w.place + w.place + 1 ≡ rank y) ⊎ (w.place + w.place + 1 < rank y) → is_before w y ≡ true
    go (inl e) = absurd (n (sym (same-rank t c s w y j k core (of-w ∙ e))))
    go (inr l) = rank-before w y core (subst (λ m. m < rank y) (sym of-w) l)

pub after-store : (t : Litmus) (c : Candidate) → Sound t c → IsAllowed t c → (r w y : Entry) → IsIn (events t c) r → IsIn (events t c) w
    → IsIn (events t c) y → ArePair r w → r.loc.0 ≡ w.loc.0
    → (y ≡ w → ⊥) → Goes c r y → Goes c w y
after-store t c s a r w y i j k p same n (inl g) =
    inl (po-after t c s r w y j k p n g.0, kept-with-locked w y (true-or (is_locked w) (is_locked y) (inl (ap is_locked_kind p.write))))
after-store t c s a r w y i j k p same n (inr (inl g)) =
    absurd (write-is-no-read r (writes y.loc.0 r (source-writes t c s r y k g.0).1) (ap (λ z. same_kind z R || same_kind z LR) p.read))
after-store t c s a r w y i j k p same n (inr (inr (inl g))) =
    absurd (write-is-no-read r (writes r.loc.0 r (s.coherent r.loc.0 r (g.first, g.is_first)).1)
    (ap (λ z. same_kind z R || same_kind z LR) p.read))
after-store t c s a r w y i j k p same n (inr (inr (inr f))) =
    go (one-way (c.coherence r.loc.0) w y (s.candidate.writes r.loc.0 w j to-w) (s.candidate.writes r.loc.0 y k to-y))
  where
    is-w : is_write w ≡ true
    is-w = ap (λ z. same_kind z W || same_kind z LW) p.write

    to-w : writes_to r.loc.0 w ≡ true
    to-w = writes-at r.loc.0 w is-w (sym same)

    to-y : writes_to r.loc.0 y ≡ true
    to-y = (after-writes t c s r y f).1

    before-y : IsEarlier (c.coherence r.loc.0) y w → IsBefore c y w
    before-y e = subst (λ l. IsEarlier (c.coherence l) y w) (sym (location r.loc.0 y to-y)) e

    apart : IsEarlier (c.coherence r.loc.0) y w → (r.core.0 ≡ y.core.0 → ⊥) → ⊥
    apart e d = a.atomic r y w i k j p f d (before-y e) (λ q. d (p.core ∙ sym q))

    never : IsEarlier (c.coherence r.loc.0) y w → (r.core.0 ≡ y.core.0) ⊎ (r.core.0 ≡ y.core.0 → ⊥) → ⊥
    never e (inl d) = elim (order-of (rank r) (rank y)) [
      | inl l ↦
          let b : is_before w y ≡ true = po-after t c s r w y j k p n (rank-before r y d l) in
          a.global w (onward w y w j (write_before_write w y b is-w (writes r.loc.0 y to-y)) (at_once y w k j (co y w (before-y e))))
      | inr (inl q) ↦ write-is-no-read y (writes r.loc.0 y to-y) (subst (λ z. is_read z ≡ true) (same-rank t c s r y i k d q) f.read)
      | inr (inr l) ↦
          a.uniproc y (onward y r y k
          (po_loc y r (rank-before y r (sym d) l)
          (share y r (true-or (is_read y) (is_write y) (inr (writes r.loc.0 y to-y))) (true-or (is_read r) (is_write r) (inl f.read))
          (location r.loc.0 y to-y)))
          (at_once r y i k (fr r y f)))
    ]
    never e (inr d) = apart e d

    go : (w ≡ y) ⊎ (IsEarlier (c.coherence r.loc.0) w y ⊎ IsEarlier (c.coherence r.loc.0) y w) → Goes c w y
    go (inl e) = absurd (n (sym e))
    go (inr (inl e)) = inr (inr (inl (subst (λ l. IsEarlier (c.coherence l) w y) same e)))
    go (inr (inr e)) = absurd (never e (number r.core.0 y.core.0))
