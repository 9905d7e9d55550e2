-- Members of lists, by the ways in which the lists are made.
use Rattle.std.proofs.Common.{◌≡◌, ℕ, zero, suc, List, [], ◌∷◌, ◌++◌, Some, map, filter, Bool, true, false, if◌then◌else◌, ◌⊎◌, ◌<◌, length}
use Rattle.std.proofs.Common.{slice_get, arith, ap, sym, ◌∙◌, refl, subst, inl, inr}
use Rattle.branch_laws.specs.Rounds.{StandsAmong, for_each}

pub among-left : {A : Type 0} (x : A) (xs ys : List A) → StandsAmong x xs → StandsAmong x (xs ++ ys)
among-left x [] ys h = absurd h
among-left x (y ∷ xs) ys (inl q) = inl q
among-left x (y ∷ xs) ys (inr h) = inr (among-left x xs ys h)

pub among-right : {A : Type 0} (x : A) (xs ys : List A) → StandsAmong x ys → StandsAmong x (xs ++ ys)
among-right x [] ys h = h
among-right x (y ∷ xs) ys h = inr (among-right x xs ys h)

pub among-either : {A : Type 0} (x : A) (xs ys : List A) → StandsAmong x (xs ++ ys) → StandsAmong x xs ⊎ StandsAmong x ys
among-either x [] ys h = inr h
among-either x (y ∷ xs) ys (inl q) = inl (inl q)
among-either x (y ∷ xs) ys (inr h) = elim (among-either x xs ys h) [ inl k ↦ inl (inr k) | inr k ↦ inr k ]

pub among-map : {A B : Type 0} (f : A → B) (x : A) (xs : List A) → StandsAmong x xs → StandsAmong (f x) (map f xs)
among-map f x [] h = absurd h
among-map f x (y ∷ xs) (inl q) = inl (ap f q)
among-map f x (y ∷ xs) (inr h) = inr (among-map f x xs h)

pub map-among : {A B : Type 0} (f : A → B) (z : B) (xs : List A) → StandsAmong z (map f xs) → (x : A) × StandsAmong x xs × (z ≡ f x)
map-among f z [] h = absurd h
map-among f z (x ∷ xs) (inl q) = (x, inl refl, q)
map-among f z (x ∷ xs) (inr h) = let r = map-among f z xs h in (r.0, inr r.1, r.2)

pub among-for-each : {A : Type 0} (x : A) (v : ℕ) (vs : List ℕ) (ways : ℕ → List A)
    → StandsAmong v vs
    → StandsAmong x (ways v)
    → StandsAmong x (for_each vs ways)
among-for-each x v [] ways h k = absurd h
among-for-each x v (w ∷ vs) ways (inl q) k = among-left x (ways w) (for_each vs ways) (subst (λ z. StandsAmong x (ways z)) q k)
among-for-each x v (w ∷ vs) ways (inr h) k = among-right x (ways w) (for_each vs ways) (among-for-each x v vs ways h k)

pub for-each-among : {A : Type 0} (x : A) (vs : List ℕ) (ways : ℕ → List A)
    → StandsAmong x (for_each vs ways)
    → (v : ℕ) × StandsAmong v vs × StandsAmong x (ways v)
for-each-among x [] ways h = absurd h
for-each-among x (v ∷ vs) ways h = elim (among-either x (ways v) (for_each vs ways) h) [
  | inl k ↦ (v, inl refl, k)
  | inr k ↦ (let r = for-each-among x vs ways k in (r.0, inr r.1, r.2))
]

pub among-filter : {A : Type 0} (p : A → Bool) (x : A) (xs : List A) → StandsAmong x (filter p xs) → StandsAmong x xs × (p x ≡ true)
among-filter p x [] h = absurd h
among-filter p x (y ∷ xs) h = go (p y) refl (λ k. among-filter p x xs k) h
  where
    go : (t : Bool) → p y ≡ t → (StandsAmong x (filter p xs) → StandsAmong x xs × (p x ≡ true)) → StandsAmong x (if t then y ∷ filter p xs else filter p xs)
        → StandsAmong x (y ∷ xs) × (p x ≡ true)
    go true q again (inl e) = (inl e, ap p e ∙ q)
    go true q again (inr k) = let r = again k in (inr r.0, r.1)
    go false q again k = let r = again k in (inr r.0, r.1)

pub among-get : {A : Type 0} (x : A) (xs : List A) → StandsAmong x xs → (i : ℕ) × (i < length xs) × (slice_get xs i ≡ Some x)
among-get x [] h = absurd h
among-get x (y ∷ xs) (inl q) = (0, omega arith, ap Some (sym q))
among-get x (y ∷ xs) (inr h) = let r = among-get x xs h in (suc r.0, (let z = r.1 in omega arith), r.2)

pub get-among : {A : Type 0} (x : A) (xs : List A) (i : ℕ) → slice_get xs i ≡ Some x → StandsAmong x xs
get-among x [] i e = absurd (let z : ⊥ = cc in z)
get-among x (y ∷ xs) zero e = inl (let z : x ≡ y = cc in z)
get-among x (y ∷ xs) (suc i) e = inr (get-among x xs i e)
