-- What a loop picks of a list, item by item.
use Rattle.found_reasons.proofs.Vocabulary.{◌≡◌, ◌<◌, ◌+◌, ℕ, Bool, true, false, if◌then◌else◌, List, [], ◌∷◌, ◌++◌, length, drop, filter}
use Rattle.found_reasons.proofs.Vocabulary.{ap, refl, sym, ◌∙◌, is_step}
use Rattle.basic_laws.specs.Types.{Choice, Core, Step, Drain}
use Rattle.std.proofs.Common.{get_or, append_assoc}
use Rattle.std.proofs.lemmas.List.{at_drop_more}

filter-step : {X : Type 0} (P : X → Bool) (x : X) (xs : List X) (b : Bool) → P x ≡ b
    → filter P (x ∷ xs) ≡ (if b then x ∷ filter P xs else filter P xs)
filter-step P x xs b e = ap (λ t. if t then x ∷ filter P xs else filter P xs) e

pub picked : {X : Type 0} (P : X → Bool) (xs : List X) (i : ℕ) (d : X) (before after whole : List X) → i < length xs
    → after ≡ before ++ (get_or xs i d ∷ []) → P (get_or xs i d) ≡ true → whole ≡ before ++ filter P (drop i xs)
    → whole ≡ after ++ filter P (drop (i + 1) xs)
picked P xs i d before after whole within more is so =
    let left = filter P (drop (i + 1) xs) in
    so
    ∙ (at_drop_more (λ ys. before ++ filter P ys) xs i d within
    ∙ (ap (λ z. before ++ z) (filter-step P (get_or xs i d) (drop (i + 1) xs) true is)
    ∙ (sym (append_assoc before (get_or xs i d ∷ []) left) ∙ ap (λ z. z ++ left) (sym more))))

pub passed : {X : Type 0} (P : X → Bool) (xs : List X) (i : ℕ) (d : X) (before after whole : List X) → i < length xs
    → after ≡ before → P (get_or xs i d) ≡ false → whole ≡ before ++ filter P (drop i xs)
    → whole ≡ after ++ filter P (drop (i + 1) xs)
passed P xs i d before after whole within same not so =
    let left = filter P (drop (i + 1) xs) in
    so
    ∙ (at_drop_more (λ ys. before ++ filter P ys) xs i d within
    ∙ (ap (λ z. before ++ z) (filter-step P (get_or xs i d) (drop (i + 1) xs) false not) ∙ ap (λ z. z ++ left) (sym same)))

pub no-step : (c : Choice) → ((core : Core) → c ≡ Step core → ⊥) → is_step c ≡ false
no-step (Step core) h = absurd (h core refl)
no-step (Drain core) h = refl
