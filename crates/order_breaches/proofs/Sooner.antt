-- Program order as a fact.
use Rattle.order_breaches.proofs.Vocabulary.{◌≡◌, ◌<◌, true, ◌==◌, nat_lt, arith, sym, ◌∙◌, inl, inr, eq-eqb, eqb-true, and_from, and_parts}
use Rattle.order_breaches.proofs.Vocabulary.{lt-ltb, ltb-true, is_before, rank, by-rank, Entry, Precedes}

-- program order as a fact
pub record Before (x y : Entry) : Type 0 where
  pub core : x.core.0 ≡ y.core.0
  pub sooner : rank x < rank y

pub before-parts : (x y : Entry) → is_before x y ≡ true → Before x y
before-parts x y h =
    let p = and_parts (x.core.0 == y.core.0) (nat_lt (rank x) (rank y)) (sym (by-rank x y) ∙ h) in
    record { core = eqb-true x.core.0 y.core.0 p.0; sooner = ltb-true (rank x) (rank y) p.1 }

pub before-from : (x y : Entry) → Before x y → is_before x y ≡ true
before-from x y b =
    by-rank x y
    ∙ and_from (x.core.0 == y.core.0) (nat_lt (rank x) (rank y)) (eq-eqb x.core.0 y.core.0 b.core) (lt-ltb (rank x) (rank y) b.sooner)

-- of two entries of one core the one that precedes has the smaller rank
pub sooner-of : (x y : Entry) → x.core.0 ≡ y.core.0 → Precedes x y → rank x < rank y
sooner-of x y c p = elim p [ inl l ↦ absurd (omega arith) | inr q ↦ q.1 ]
