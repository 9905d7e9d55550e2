-- What program order keeps, as an order of numbers.
use Rattle.relational_model.proofs.Vocabulary.{◌≡◌, ◌<◌, ℕ, ◌⊎◌, true, ◌==◌, ◌&&◌, nat_lt, arith, sym, ◌∙◌, nat_tests, is_before, Entry, rank, by-rank}

both : (a b c d : ℕ) → ((a == b) && nat_lt c d) ≡ true → (a ≡ b) × (c < d)
both a b c d h = (grind (arith, nat_tests), grind (arith, nat_tests))

join : (a b c d : ℕ) → a ≡ b → c < d → ((a == b) && nat_lt c d) ≡ true
join a b c d h k = grind (arith, nat_tests)

pub order-of : (m n : ℕ) → (m < n) ⊎ ((m ≡ n) ⊎ (n < m))
order-of m n = grind arith

-- of one core, and of a smaller rank
pub before-rank : (x y : Entry) → is_before x y ≡ true → (x.core.0 ≡ y.core.0) × (rank x < rank y)
before-rank x y h = both x.core.0 y.core.0 (rank x) (rank y) (sym (by-rank x y) ∙ h)

pub rank-before : (x y : Entry) → x.core.0 ≡ y.core.0 → rank x < rank y → is_before x y ≡ true
rank-before x y c l = by-rank x y ∙ join x.core.0 y.core.0 (rank x) (rank y) c l

pub before-trans : (x y z : Entry) → is_before x y ≡ true → is_before y z ≡ true → is_before x z ≡ true
before-trans x y z p q =
    let a = before-rank x y p in
    let b = before-rank y z q in
    rank-before x z (a.0 ∙ b.0) (let l : rank x < rank y = a.1 in let k : rank y < rank z = b.1 in omega arith)

pub before-irreflexive : (x : Entry) → is_before x x ≡ true → ⊥
before-irreflexive x p = let l : rank x < rank x = (before-rank x x p).1 in omega arith
