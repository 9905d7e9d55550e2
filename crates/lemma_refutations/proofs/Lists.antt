-- Members of lists of any type, by their places.
use Rattle.lemma_refutations.proofs.Vocabulary.{◌≡◌, ◌⊎◌, inl, inr, ◌&&◌, ◌||◌, ℕ, zero, suc, Bool, true, false, List, [], ◌∷◌, ◌++◌, Some}
use Rattle.lemma_refutations.proofs.Vocabulary.{refl, sym, ap, subst, slice_get, map, filter, if◌then◌else◌, list_any, list_all, and-both}

-- x is in this list
abbrev pub Has : {A : Type 0} → List A → A → Type 0
Has xs x = (i : ℕ) × (slice_get xs i ≡ Some x)

pub has-none : {A : Type 0} (x : A) → Has [] x → ⊥
has-none x (i, h) = let z : ⊥ = cc in z

pub all-at : {A : Type 0} (p : A → Bool) (xs : List A) (i : ℕ) (x : A) → list_all p xs ≡ true → slice_get xs i ≡ Some x → p x ≡ true
all-at p [] i x h e = let z : ⊥ = cc in absurd z
all-at p (y ∷ ys) zero x h e = let q : y ≡ x = cc in subst (λ z. p z ≡ true) q (and-both (p y) (list_all p ys) h).0
all-at p (y ∷ ys) (suc i) x h e = all-at p ys i x (and-both (p y) (list_all p ys) h).1 e

-- a member for which a test holds
pub record Picked {A : Type 0} (p : A → Bool) (xs : List A) : Type 0 where
  pub place : ℕ
  pub member : A
  pub stands : slice_get xs place ≡ Some member
  pub holds : p member ≡ true

pub any-picked : {A : Type 0} (p : A → Bool) (xs : List A) → list_any p xs ≡ true → Picked p xs
any-picked p [] h = let z : ⊥ = cc in absurd z
any-picked p (x ∷ xs) h = go (p x) refl h (λ k. any-picked p xs k)
  where
    go : (b : Bool) → p x ≡ b → (b || list_any p xs) ≡ true → (list_any p xs ≡ true → Picked p xs) → Picked p (x ∷ xs)
    go true q h later = record { place = 0; member = x; stands = refl; holds = q }
    go false q h later = let o = later h in record { place = suc o.place; member = o.member; stands = o.stands; holds = o.holds }

pub any-at : {A : Type 0} (p : A → Bool) (xs : List A) (i : ℕ) (x : A) → slice_get xs i ≡ Some x → p x ≡ true → list_any p xs ≡ true
any-at p [] i x e h = let z : ⊥ = cc in absurd z
any-at p (y ∷ ys) zero x e h = let q : y ≡ x = cc in subst (λ b. (b || list_any p ys) ≡ true) (sym (subst (λ z. p z ≡ true) (sym q) h)) refl
any-at p (y ∷ ys) (suc i) x e h = go (p y) (any-at p ys i x e h)
  where
    go : (b : Bool) → list_any p ys ≡ true → (b || list_any p ys) ≡ true
    go true q = refl
    go false q = q

pub map-at : {A B : Type 0} (f : A → B) (xs : List A) (i : ℕ) (x : A) → slice_get xs i ≡ Some x → slice_get (map f xs) i ≡ Some (f x)
map-at f [] i x e = let z : ⊥ = cc in absurd z
map-at f (y ∷ ys) zero x e = let q : y ≡ x = cc in ap (λ z. Some (f z)) q
map-at f (y ∷ ys) (suc i) x e = map-at f ys i x e

pub left-at : {A : Type 0} (xs ys : List A) (i : ℕ) (x : A) → slice_get xs i ≡ Some x → slice_get (xs ++ ys) i ≡ Some x
left-at [] ys i x e = let z : ⊥ = cc in absurd z
left-at (z ∷ zs) ys zero x e = e
left-at (z ∷ zs) ys (suc i) x e = left-at zs ys i x e

pub right-at : {A : Type 0} (xs ys : List A) (i : ℕ) (x : A) → slice_get ys i ≡ Some x → Has (xs ++ ys) x
right-at [] ys i x e = (i, e)
right-at (z ∷ zs) ys i x e = let h = right-at zs ys i x e in (suc h.0, h.1)

pub filter-at : {A : Type 0} (p : A → Bool) (xs : List A) (i : ℕ) (x : A) → slice_get (filter p xs) i ≡ Some x → Has xs x × (p x ≡ true)
filter-at p [] i x e = let z : ⊥ = cc in absurd z
filter-at p (y ∷ ys) i x e = go (p y) refl i e (λ j f. filter-at p ys j x f)
  where
    go : (b : Bool) → p y ≡ b → (i : ℕ) → slice_get (if b then y ∷ filter p ys else filter p ys) i ≡ Some x
        → ((j : ℕ) → slice_get (filter p ys) j ≡ Some x → Has ys x × (p x ≡ true)) → Has (y ∷ ys) x × (p x ≡ true)
    go true q zero e later = let s : y ≡ x = cc in ((0, e), subst (λ z. p z ≡ true) s q)
    go true q (suc j) e later = let r = later j e in ((suc r.0.0, r.0.1), r.1)
    go false q j e later = let r = later j e in ((suc r.0.0, r.0.1), r.1)

-- what is in a list of images is one
pub record Image {A B : Type 0} (f : A → B) (xs : List A) (y : B) : Type 0 where
  pub of : A
  pub inside : Has xs of
  pub same : y ≡ f of

pub image-at : {A B : Type 0} (f : A → B) (xs : List A) (i : ℕ) (y : B) → slice_get (map f xs) i ≡ Some y → Image f xs y
image-at f [] i y e = let z : ⊥ = cc in absurd z
image-at f (x ∷ xs) zero y e = let q : f x ≡ y = cc in record { of = x; inside = (0, refl); same = sym q }
image-at f (x ∷ xs) (suc i) y e = let r = image-at f xs i y e in record { of = r.of; inside = (suc r.inside.0, r.inside.1); same = r.same }

pub all-of : {A : Type 0} (p : A → Bool) (xs : List A) → ((i : ℕ) (x : A) → slice_get xs i ≡ Some x → p x ≡ true) → list_all p xs ≡ true
all-of p [] h = refl
all-of p (x ∷ xs) h = subst (λ b. (b && list_all p xs) ≡ true) (sym (h 0 x refl)) (all-of p xs (λ i y e. h (suc i) y e))

-- what is in a list with one more is in the list, or is that one
pub last-at : {A : Type 0} (xs : List A) (z : A) (i : ℕ) (x : A) → slice_get (xs ++ (z ∷ [])) i ≡ Some x → (slice_get xs i ≡ Some x) ⊎ (x ≡ z)
last-at [] z zero x e = let q : z ≡ x = cc in inr (sym q)
last-at [] z (suc i) x e = let q : ⊥ = cc in absurd q
last-at (y ∷ ys) z zero x e = inl e
last-at (y ∷ ys) z (suc i) x e = last-at ys z i x e
