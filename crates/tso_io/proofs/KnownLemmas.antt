-- Two changes of known bytes, one after the other.
use Rattle.std.proofs.Common.{◌≡◌, ℕ, ◌+◌, ◌-◌, ◌≤◌, List, [], ◌∷◌, ◌++◌, length, take, drop, Option, Some, None, arith, ap, ◌∙◌}
use Rattle.std.proofs.Common.{append_assoc, refl, zero, suc, ◌==◌, false}
use Rattle.std.proofs.lemmas.Bool.Decides.{nat_tests}
use Rattle.std.specs.Io.KnownBytes.{Appends}

pub appends-more : (a b c : Option (List ℕ)) (xs ys zs : List ℕ) → Appends a b xs → Appends b c ys → xs ++ ys ≡ zs → Appends a c zs
appends-more None b c xs ys zs p q e = tt
appends-more (Some a) None c xs ys zs p q e = absurd p
appends-more (Some a) (Some b) None xs ys zs p q e = absurd q
appends-more (Some a) (Some b) (Some c) xs ys zs p q e = q ∙ ap (λ z. z ++ ys) p ∙ append_assoc a xs ys ∙ ap (λ z. a ++ z) e

take-all : (zs : List ℕ) → take (length zs) zs ≡ zs
take-all [] = refl
take-all (z ∷ zs) = ap (λ r. z ∷ r) (take-all zs)

pub take-piece : (i n : ℕ) (xs : List ℕ) → i ≤ length xs → take i xs ++ take n (take (length xs - i) (drop i xs)) ≡ take (i + n) xs
take-piece zero n xs h = rw (let q : length xs - 0 ≡ length xs = omega arith in q, take-all xs, let q : 0 + n ≡ n = omega arith in q) refl
take-piece (suc i) n [] h = absurd (omega arith)
take-piece (suc i) n (x ∷ xs) h =
    rw (
      let q : suc (length xs) - suc i ≡ length xs - i = omega arith in q,
      let q : suc i + n ≡ suc (i + n) = omega arith in q,
    )
    (ap (λ r. x ∷ r) (take-piece i n xs (omega arith)))

pub not-zero : (n : ℕ) → (n ≡ 0 → ⊥) → (n == 0) ≡ false
not-zero n h = grind (arith, nat_tests)
