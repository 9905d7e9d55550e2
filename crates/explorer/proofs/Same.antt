-- Packed states are equal by == exactly where their bytes are the same.
use Rattle.explorer.proofs.Vocabulary.{◌≡◌, ℕ, List, [], ◌∷◌, Bool, true, ◌&&◌, ◌||◌, ◌∙◌, list_any, ap, refl, subst, pointwise, eqb-true}
use Rattle.explorer.proofs.Vocabulary.{eq-eqb, eqb, false, sym, and-left, and-right, state_of_bytes, state_of_packed, Packed}
use mathlib.Core.Bool.{beq}
use Rattle.explorer.specs.contracts.packed.PackedPartialEq.TheImpl as packed_eq

pub pointwise-same : {A : Type 0} (E : A → A → Bool) → ((x y : A) → E x y ≡ true → x ≡ y) → (xs ys : List A) → pointwise E xs ys ≡ true → xs ≡ ys
pointwise-same E h [] [] q = refl
pointwise-same E h [] (y ∷ ys) q = absurd (let z : ⊥ = cc in z)
pointwise-same E h (x ∷ xs) [] q = absurd (let z : ⊥ = cc in z)
pointwise-same E h (x ∷ xs) (y ∷ ys) q =
    rw (
      h x y (and-left (E x y) (pointwise E xs ys) q),
      pointwise-same E h xs ys (and-right (E x y) (pointwise E xs ys) q),
    ) refl

pub words-same : (xs ys : List ℕ) → pointwise eqb xs ys ≡ true → xs ≡ ys
words-same xs ys q = pointwise-same eqb eqb-true xs ys q

pub tests-same : (xs ys : List Bool) → pointwise beq xs ys ≡ true → xs ≡ ys
tests-same xs ys q = pointwise-same beq both-tests xs ys q
  where
    both-tests : (x y : Bool) → beq x y ≡ true → x ≡ y
    both-tests true true q = refl
    both-tests true false q = sym q
    both-tests false true q = q
    both-tests false false q = refl

pub packed-same : (a b : Packed) → (packed_eq.eq-value).it a b ≡ true → state_of_packed a ≡ state_of_packed b
packed-same a b q = ap state_of_bytes (words-same a.bytes.items b.bytes.items q)

-- so the same bytes are in a set, or aren't
pub same-any : (a b : Packed) (xs : List Packed)
    → a.bytes.items ≡ b.bytes.items
    → list_any ((packed_eq.eq-value).it a) xs ≡ list_any ((packed_eq.eq-value).it b) xs
same-any a b [] q = refl
same-any a b (x ∷ xs) q =
    ap (λ z. pointwise eqb z x.bytes.items || list_any ((packed_eq.eq-value).it a) xs) q ∙ ap (λ z. (packed_eq.eq-value).it b x || z) (same-any a b xs q)

-- ---- the same, and so equal by ==

both : (a b : Bool) → a ≡ true → b ≡ true → (a && b) ≡ true
both a b p q = rw (p, q) refl

itself : (n : ℕ) → eqb n n ≡ true
itself n = eq-eqb n n refl

pointwise-itself : {A : Type 0} (E : A → A → Bool) → ((x : A) → E x x ≡ true) → (xs : List A) → pointwise E xs xs ≡ true
pointwise-itself E h [] = refl
pointwise-itself E h (x ∷ xs) = both (E x x) (pointwise E xs xs) (h x) (pointwise-itself E h xs)

pointwise-equal : {A : Type 0} (E : A → A → Bool) → ((x : A) → E x x ≡ true) → (xs ys : List A) → xs ≡ ys → pointwise E xs ys ≡ true
pointwise-equal E h xs ys q = subst (λ z. pointwise E xs z ≡ true) q (pointwise-itself E h xs)

pub packed-equal : (a b : Packed) → a.bytes.items ≡ b.bytes.items → (packed_eq.eq-value).it a b ≡ true
packed-equal a b q = pointwise-equal eqb itself a.bytes.items b.bytes.items q
