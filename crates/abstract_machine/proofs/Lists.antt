-- Small facts on lists that are written and mapped.
use Rattle.abstract_machine.proofs.Vocabulary.{◌≡◌, ◌≢◌, ◌<◌, ℕ, zero, suc, List, [], ◌∷◌, ◌++◌, length, map, Some, slice_get, slice_set}
use Rattle.abstract_machine.proofs.Vocabulary.{slice_index_or, arith, ap, sym, refl, Each}

pub map-get : {A B : Type 0} (f : A → B) (xs : List A) (k : ℕ) (x : A) → slice_get xs k ≡ Some x → slice_get (map f xs) k ≡ Some (f x)
map-get f [] k x e = absurd (let z : ⊥ = cc in z)
map-get f (y ∷ ys) zero x e = let q : y ≡ x = cc in ap (λ z. Some (f z)) q
map-get f (y ∷ ys) (suc k) x e = map-get f ys k x e

pub get-map : {A B : Type 0} (f : A → B) (xs : List A) (k : ℕ) (y : B) → slice_get (map f xs) k ≡ Some y
    → (x : A) × (slice_get xs k ≡ Some x) × (f x ≡ y)
get-map f [] k y e = absurd (let z : ⊥ = cc in z)
get-map f (x ∷ xs) zero y e = (x, refl, let q : f x ≡ y = cc in q)
get-map f (x ∷ xs) (suc k) y e = get-map f xs k y e

pub set-get : {A : Type 0} (xs : List A) (k : ℕ) (v : A) → k < length xs → slice_get (slice_set xs k v) k ≡ Some v
set-get [] k v l = absurd (omega arith)
set-get (x ∷ xs) zero v l = refl
set-get (x ∷ xs) (suc k) v l = set-get xs k v (omega arith)

pub set-same : {A : Type 0} (xs : List A) (k : ℕ) (x : A) → slice_get xs k ≡ Some x → slice_set xs k x ≡ xs
set-same [] k x e = refl
set-same (y ∷ ys) zero x e = let q : y ≡ x = cc in ap (λ z. z ∷ ys) (sym q)
set-same (y ∷ ys) (suc k) x e = ap (λ z. y ∷ z) (set-same ys k x e)

-- what is in the list at a place after a write there or elsewhere
pub each-set : {A : Type 0} (P : A → Type 0) (xs : List A) (k : ℕ) (v : A) → Each P xs → P v → Each P (slice_set xs k v)
each-set P [] k v h p = tt
each-set P (x ∷ xs) zero v h p = (p, h.1)
each-set P (x ∷ xs) (suc k) v h p = (h.0, each-set P xs k v h.1 p)

pub append-one : {A : Type 0} (xs : List A) (x : A) → length (xs ++ (x ∷ [])) ≡ suc (length xs)
append-one [] x = refl
append-one (y ∷ xs) x = ap suc (append-one xs x)

pub not-empty : {A : Type 0} (xs : List A) (x : A) → xs ++ (x ∷ []) ≡ [] → ⊥
not-empty [] x e = let z : ⊥ = cc in z
not-empty (y ∷ xs) x e = let z : ⊥ = cc in z

pub within : {A : Type 0} (xs : List A) (k : ℕ) (x : A) → slice_get xs k ≡ Some x → k < length xs
within [] k x e = absurd (let z : ⊥ = cc in z)
within (y ∷ ys) zero x e = omega arith
within (y ∷ ys) (suc k) x e = let l = within ys k x e in omega arith

pub get-or : {A : Type 0} (xs : List A) (k : ℕ) (x default : A) → slice_get xs k ≡ Some x → slice_index_or xs k default ≡ x
get-or [] k x default e = absurd (let z : ⊥ = cc in z)
get-or (y ∷ ys) zero x default e = let q : y ≡ x = cc in q
get-or (y ∷ ys) (suc k) x default e = get-or ys k x default e

pub get-other : {A : Type 0} (xs : List A) (k j : ℕ) (v : A) → k ≢ j → slice_get (slice_set xs k v) j ≡ slice_get xs j
get-other [] k j v n = refl
get-other (x ∷ xs) zero zero v n = absurd (n refl)
get-other (x ∷ xs) zero (suc j) v n = refl
get-other (x ∷ xs) (suc k) zero v n = refl
get-other (x ∷ xs) (suc k) (suc j) v n = get-other xs k j v (λ q. n (ap suc q))

pub map-map : {A B C : Type 0} (g : B → C) (f : A → B) (xs : List A) → map g (map f xs) ≡ map (λ x. g (f x)) xs
map-map g f [] = refl
map-map g f (x ∷ xs) = ap (λ z. g (f x) ∷ z) (map-map g f xs)
