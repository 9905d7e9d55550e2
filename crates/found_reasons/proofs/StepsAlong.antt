-- The steps among the choices along an order.
use Rattle.found_reasons.proofs.Vocabulary.{◌≡◌, ℕ, ◌+◌, ◌-◌, suc, Bool, true, false, if◌then◌else◌, List, [], ◌∷◌, ◌++◌, length, ap, ◌∙◌}
use Rattle.found_reasons.proofs.Vocabulary.{refl, Litmus, is_store, Entry, steps, drained, choices_for, places_after, last_steps}
use Rattle.found_reasons.proofs.Vocabulary.{choices_from, is_step}
use Rattle.std.proofs.Common.{zero, filter, slice_index}
use Rattle.basic_laws.proofs.Lists.{append-nil}
use Rattle.tso_terms.specs.FlatMachine.{step}
use Rattle.basic_laws.specs.Types.{Instr, Choice, Drain}

abbrev pub steps_from : Litmus → List ℕ → List Entry → List Choice
steps_from t places [] = last_steps 0 t.programs places
steps_from t places (x ∷ xs) = steps x.core.0 ((x.place + 1) - slice_index places x.core.0) ++ steps_from t (places_after places x) xs

filter-append : (f : Choice → Bool) (xs ys : List Choice) → filter f (xs ++ ys) ≡ filter f xs ++ filter f ys
filter-append f [] ys = refl
filter-append f (x ∷ xs) ys = go (f x) (filter-append f xs ys)
  where
    go : (b : Bool) → filter f (xs ++ ys) ≡ filter f xs ++ filter f ys
        → (if b then x ∷ filter f (xs ++ ys) else filter f (xs ++ ys)) ≡ (if b then x ∷ filter f xs else filter f xs) ++ filter f ys
    go true e = ap (λ z. x ∷ z) e
    go false e = e

filter-steps : (k n : ℕ) → filter is_step (steps k n) ≡ steps k n
filter-steps k zero = refl
filter-steps k (suc n) = ap (λ z. step k ∷ z) (filter-steps k n)

filter-drained : (x : Entry) → filter is_step (drained x) ≡ []
filter-drained x = go (is_store x)
  where
    go : (b : Bool) → filter is_step (if b then Drain (record { 0 = x.core.0 }) ∷ [] else []) ≡ []
    go true = refl
    go false = refl

filter-last : (k : ℕ) (ps : List (List Instr)) (places : List ℕ) → filter is_step (last_steps k ps places) ≡ last_steps k ps places
filter-last k [] places = refl
filter-last k (p ∷ ps) places =
    let n = length p - slice_index places k in
    filter-append is_step (steps k n) (last_steps (k + 1) ps places)
    ∙ ap (λ z. z ++ filter is_step (last_steps (k + 1) ps places)) (filter-steps k n)
    ∙ ap (λ z. steps k n ++ z) (filter-last (k + 1) ps places)

pub filter-from : (t : Litmus) (places : List ℕ) (order : List Entry) → filter is_step (choices_from t places order) ≡ steps_from t places order
filter-from t places [] = filter-last 0 t.programs places
filter-from t places (x ∷ xs) =
    let n = (x.place + 1) - slice_index places x.core.0 in
    let rest = choices_from t (places_after places x) xs in
    filter-append is_step (choices_for places x) rest
    ∙ ap (λ z. z ++ filter is_step rest)
    (filter-append is_step (steps x.core.0 n) (drained x)
    ∙ ap (λ z. z ++ filter is_step (drained x)) (filter-steps x.core.0 n)
    ∙ ap (λ z. steps x.core.0 n ++ z) (filter-drained x)
    ∙ append-nil (steps x.core.0 n))
    ∙ ap (λ z. steps x.core.0 n ++ z) (filter-from t (places_after places x) xs)

pub steps-last : (k n : ℕ) → steps k n ++ (step k ∷ []) ≡ steps k (suc n)
steps-last k zero = refl
steps-last k (suc n) = ap (λ z. step k ∷ z) (steps-last k n)
