-- Small facts on numbers, tests and kinds of entries.
use Rattle.std.proofs.Common.{max, ◌≡◌, ◌≢◌, ◌<◌, ◌≤◌, ℕ, Bool, true, false, arith, refl, ◌⊎◌, inl, inr, ◌==◌, ◌&&◌, nat_lt, ◌∙◌}
use Rattle.std.proofs.lemmas.Bool.Decides.{nat_tests}
use Rattle.tso_terms.specs.ProgramOrder.{is_before}
use Rattle.basic_laws.specs.Ranks.{part_of, rank}
use Rattle.basic_laws.proofs.Ranks.{is_load_kind, by-rank}
use Rattle.basic_laws.specs.Types.{Entry, Kind, R, W, F, LR, LW}

pub test-false : (a b : ℕ) → a ≢ b → (a == b) ≡ false
test-false a b h = grind (arith, nat_tests)

pub test-true : (a b : ℕ) → a ≡ b → (a == b) ≡ true
test-true a b h = grind (arith, nat_tests)

pub decide : (a b : ℕ) → (a ≡ b) ⊎ (a ≢ b)
decide a b = go (a == b) refl
  where
    go : (t : Bool) → (a == b) ≡ t → (a ≡ b) ⊎ (a ≢ b)
    go true q = inl (let z : a ≡ b = grind (arith, nat_tests) in z)
    go false q = inr (let z : a ≢ b = grind (arith, nat_tests) in z)

pub lt-or : (n k : ℕ) → (k < n) ⊎ (n ≤ k)
lt-or n k = grind arith

pub le-cases : (a b : ℕ) → a ≤ b → (a ≡ b) ⊎ (a < b)
le-cases a b h = grind arith

pub lt-by : {i j : ℕ} → (j ≤ i → ⊥) → i < j
lt-by h = grind arith

pub le-by : {a b : ℕ} → (a < b → ⊥) → b ≤ a
le-by h = grind arith

pub max-left : (a b : ℕ) → a ≤ max a b
max-left a b = omega arith

pub max-right : (a b : ℕ) → b ≤ max a b
max-right a b = omega arith

pub max-within : (a b d : ℕ) → a ≤ d → b ≤ d → max a b ≤ d
max-within a b d p q = omega arith

pub max-first : (a b : ℕ) → b ≤ a → max a b ≡ a
max-first a b l = omega arith

pub max-second : (a b : ℕ) → a ≤ b → max a b ≡ b
max-second a b l = omega arith

pub and-true : (b : Bool) → (b && true) ≡ b
and-true true = refl
and-true false = refl

pub and-false : (b : Bool) → (b && false) ≡ false
and-false true = refl
and-false false = refl

pub and-left : (a b : Bool) → (a && b) ≡ true → a ≡ true
and-left true b h = refl
and-left false b h = absurd (let z : ⊥ = cc in z)

pub and-right : (a b : Bool) → (a && b) ≡ true → b ≡ true
and-right true b h = h
and-right false b h = absurd (let z : ⊥ = cc in z)

pub part-small : (k : Kind) → part_of k ≤ 1
part-small R = omega arith
part-small W = omega arith
part-small F = omega arith
part-small LR = omega arith
part-small LW = omega arith

pub load-kind : (k : Kind) → is_load_kind k ≡ true → k ≡ R
load-kind R h = refl
load-kind W h = absurd (let z : ⊥ = cc in z)
load-kind F h = absurd (let z : ⊥ = cc in z)
load-kind LR h = absurd (let z : ⊥ = cc in z)
load-kind LW h = absurd (let z : ⊥ = cc in z)

pub not-itself : (x : Entry) → is_before x x ≡ false
not-itself x = by-rank x x ∙ (let z : ((x.core.0 == x.core.0) && nat_lt (rank x) (rank x)) ≡ false = grind (arith, nat_tests) in z)

pub before : (x y : Entry) → x.core.0 ≡ y.core.0 → rank x < rank y → is_before x y ≡ true
before x y k h = by-rank x y ∙ (let z : ((x.core.0 == y.core.0) && nat_lt (rank x) (rank y)) ≡ true = grind (arith, nat_tests) in z)

pub core-before : (x y : Entry) → is_before x y ≡ true → x.core.0 ≡ y.core.0
core-before x y h = grind (arith, nat_tests)
