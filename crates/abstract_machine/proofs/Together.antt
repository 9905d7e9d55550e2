-- An order in which each load part is followed by its store part is put together already.
use Rattle.abstract_machine.proofs.Vocabulary.{◌≡◌, suc, Bool, true, false, List, [], ◌∷◌, Some, slice_get, ap, ◌∙◌, refl, if◌then◌else◌}
use Rattle.abstract_machine.proofs.Vocabulary.{same_kind, is_at, IsAdjacent, IsStorePart, put_before, put_together, Entry, Kind, LR, LW}
use Rattle.abstract_machine.proofs.Vocabulary.{test-true, arith}

load-kind : (k : Kind) → same_kind k LR ≡ true → k ≡ LR
load-kind k h = grind arith

store-part-at : (x y : Entry) → IsStorePart x y → is_at x.core.0 x.place LW y ≡ true
store-part-at x y s = rw (s.core, s.place, s.kind, test-true x.core.0 x.core.0 refl, test-true x.place x.place refl) refl

pub before-part : (x : Entry) (es : List Entry) → ((y : Entry) × (slice_get es 0 ≡ Some y) × IsStorePart x y) → put_before x es ≡ x ∷ es
before-part x [] h = refl
before-part x (e ∷ es) h =
    let q : e ≡ h.0 = let w = h.1 in cc in
    rw (ap (λ z. is_at x.core.0 x.place LW z) q ∙ store-part-at x h.0 h.2) refl

pub already-together : (order : List Entry) → IsAdjacent order → put_together order ≡ order
already-together [] pairs = refl
already-together (e ∷ es) pairs = go (same_kind e.kind LR) refl (already-together es (λ i x q k. pairs (suc i) x q k))
  where
    go : (b : Bool) → same_kind e.kind LR ≡ b → put_together es ≡ es
        → (if b then put_before e (put_together es) else e ∷ put_together es) ≡ e ∷ es
    go true q h = ap (λ z. put_before e z) h ∙ before-part e es (pairs 0 e refl (load-kind e.kind q))
    go false q h = ap (λ z. e ∷ z) h
