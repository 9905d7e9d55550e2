-- Two changes of known bytes, one after the other, and the input that was read.
use Rattle.std.proofs.Common.{◌≡◌, ℕ, ◌<◌, ◌≤◌, ◌⊎◌, inl, inr, List, [], ◌∷◌, ◌++◌, length, take, Option, Some, None, IfSome, arith, ap}
use Rattle.std.proofs.Common.{sym, ◌∙◌, append_assoc, refl, zero, suc, append-nil}
use Rattle.std.specs.Io.KnownBytes.{Consumes, IsAtEnd}

pub consumes-more : (a b c : Option (List ℕ)) (xs ys : List ℕ) → Consumes a b xs → Consumes b c ys → Consumes a c (xs ++ ys)
consumes-more None b c xs ys p q = tt
consumes-more (Some a) None c xs ys p q = absurd p
consumes-more (Some a) (Some b) None xs ys p q = absurd q
consumes-more (Some a) (Some b) (Some c) xs ys p q = p ∙ ap (λ z. xs ++ z) q ∙ sym (append_assoc xs ys c)

pub input-is : (most : ℕ) (old new : Option (List ℕ)) (items : List ℕ)
    → Consumes old new items
    → length items ≤ most
    → (length items < most → IsAtEnd new)
    → IfSome old (λ xs. items ≡ take most xs)
input-is most None new items c l e = tt
input-is most (Some xs) None items c l e = absurd c
input-is most (Some xs) (Some ys) items c l e = rw c (all_or_cut (le-cases (length items) most l))
  where
    le-cases : (a b : ℕ) → a ≤ b → (a < b) ⊎ (a ≡ b)
    le-cases a b h = grind arith

    take-all : (n : ℕ) (zs : List ℕ) → length zs ≤ n → take n zs ≡ zs
    take-all zero [] h = refl
    take-all zero (z ∷ zs) h = absurd (omega arith)
    take-all (suc n) [] h = refl
    take-all (suc n) (z ∷ zs) h = ap (λ r. z ∷ r) (take-all n zs (omega arith))

    take-front : (zs : List ℕ) → take (length zs) (zs ++ ys) ≡ zs
    take-front [] = refl
    take-front (z ∷ zs) = ap (λ r. z ∷ r) (take-front zs)

    all_or_cut : (length items < most) ⊎ (length items ≡ most) → items ≡ take most (items ++ ys)
    all_or_cut (inl h) = rw (e h, append-nil items) (sym (take-all most items l))
    all_or_cut (inr h) = rw (← h) (sym (take-front items))
