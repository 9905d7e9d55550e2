-- An order that keeps all of program order needs store buffers of depth 1 at most.
use Rattle.tso_laws.proofs.EndsVocabulary.{max, ◌≡◌, ◌≤◌, ℕ, suc, Bool, true, false, ◌&&◌, if◌then◌else◌, List, [], ◌∷◌, Some, slice_get}
use Rattle.tso_laws.proofs.EndsVocabulary.{length, filter, arith, ap, refl, and-right, is_before, is_load, is_store, KeepsAllOrder, Entry}
use Rattle.tso_laws.proofs.EndsVocabulary.{stores_before, most_passed, one_for_stores, needed}

filter-none : (f : Entry → Bool) (xs : List Entry) → ((j : ℕ) (y : Entry) → slice_get xs j ≡ Some y → f y ≡ true → ⊥) → filter f xs ≡ []
filter-none f [] h = refl
filter-none f (x ∷ xs) h = go (f x) refl (filter-none f xs (λ j y p. h (suc j) y p))
  where
    go : (b : Bool) → f x ≡ b → filter f xs ≡ [] → (if b then x ∷ filter f xs else filter f xs) ≡ []
    go true q r = absurd (h 0 x refl q)
    go false q r = r

pub keeps-rest : (x : Entry) (back : List Entry) → KeepsAllOrder (x ∷ back) → KeepsAllOrder back
keeps-rest x back h i j a b p q w = let l = h (suc i) (suc j) a b p q w in omega (arith, l)

passes-none : (x : Entry) (back : List Entry) → KeepsAllOrder (x ∷ back) → stores_before x back ≡ []
passes-none x back h =
    filter-none (λ y. is_store y && is_before y x) back
    (λ j y p w. let l = h (suc j) 0 y x p refl (and-right (is_store y) (is_before y x) w) in
    let z : ⊥ = omega (arith, l) in
    z)

none-passed : (order : List Entry) → KeepsAllOrder order → most_passed order ≡ 0
none-passed [] h = refl
none-passed (x ∷ back) h =
    let a : length (stores_before x back) ≡ 0 = ap length (passes-none x back h) in
    let b = none-passed back (keeps-rest x back h) in
    go (is_load x) a b
  where
    go : (b : Bool) → length (stores_before x back) ≡ 0 → most_passed back ≡ 0 → max (if b then length (stores_before x back) else 0) (most_passed back) ≡ 0
    go true p q = omega (arith, p, q)
    go false p q = omega (arith, q)

one-at-most : (order : List Entry) → one_for_stores order ≤ 1
one-at-most [] = omega arith
one-at-most (x ∷ back) = go (is_store x) (one-at-most back)
  where
    go : (b : Bool) → one_for_stores back ≤ 1 → (if b then 1 else one_for_stores back) ≤ 1
    go true l = omega arith
    go false l = l

pub needs-one : (order : List Entry) → KeepsAllOrder order → needed order ≤ 1
needs-one order h = let a = one-at-most order in let b = none-passed order h in omega (arith, a, b)
