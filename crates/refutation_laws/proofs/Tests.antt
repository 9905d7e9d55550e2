-- Tests put together and taken apart: conjunctions, disjunctions, and that a test holds of a member of a list.
use Rattle.refutation_laws.proofs.Vocabulary.{◌≡◌, ◌&&◌, ◌||◌, Bool, true, false, not, List, [], ◌∷◌, refl, sym, ap, inl, inr, subst, map}
use Rattle.refutation_laws.proofs.Vocabulary.{filter, list_any, Entry, IsIn, in-case, in-none, in-first, in-later, in-filter, filter-in}
use Rattle.refutation_laws.proofs.Vocabulary.{◌==◌, ◌≢◌, ℕ, if◌then◌else◌, is-false, same-number, arith}

pub and-of : (a b : Bool) → a ≡ true → b ≡ true → (a && b) ≡ true
and-of a b p q = rw p q

pub or-first : (a b : Bool) → a ≡ true → (a || b) ≡ true
or-first a b h = rw h refl

pub or-second : (a b : Bool) → b ≡ true → (a || b) ≡ true
or-second a b h = grind arith

pub from-not : (x : Bool) → not x ≡ true → x ≡ false
from-not x h = grind arith

pub clash : (b : Bool) → b ≡ true → b ≡ false → ⊥
clash b a h = let z : ⊥ = cc in z

pub pick : {A : Type 0} (b : Bool) (u v : A) → b ≡ true → (if b then u else v) ≡ u
pick b u v h = rw h refl

pub pass : {A : Type 0} (b : Bool) (u v : A) → b ≡ false → (if b then u else v) ≡ v
pass b u v h = rw h refl

pub different : (m n : ℕ) → m ≢ n → not (m == n) ≡ true
different m n d = ap not (is-false (m == n) (λ h. d (same-number m n h)))

pub any-in : (p : Entry → Bool) (xs : List Entry) (x : Entry) → IsIn xs x → p x ≡ true → list_any p xs ≡ true
any-in p [] x i h = absurd (in-none x i)
any-in p (y ∷ ys) x i h = elim (in-case y ys x i) [
  | inl q ↦ or-first (p y) _ (subst (λ z. p z ≡ true) q h)
  | inr j ↦ or-second (p y) _ (any-in p ys x j h)
]

pub record Holds (xs : List Entry) (p : Entry → Bool) : Type 0 where
  pub entry : Entry
  pub inside : IsIn xs entry
  pub holds : p entry ≡ true

pub any-holds : (p : Entry → Bool) (xs : List Entry) → list_any p xs ≡ true → Holds xs p
any-holds p [] h = let z : ⊥ = cc in absurd z
any-holds p (x ∷ xs) h = go (p x) refl h (λ k. any-holds p xs k)
  where
    go : (b : Bool) → p x ≡ b → (b || list_any p xs) ≡ true → (list_any p xs ≡ true → Holds xs p) → Holds (x ∷ xs) p
    go true q h later = record { entry = x; inside = in-first x xs x refl; holds = q }
    go false q h later = let o = later h in record { entry = o.entry; inside = in-later x xs o.entry o.inside; holds = o.holds }

-- a test on what is made of the members
pub any-map : {A : Type 0} (p : A → Bool) (f : Entry → A) (xs : List Entry) → list_any p (map f xs) ≡ list_any (λ x. p (f x)) xs
any-map p f [] = refl
any-map p f (x ∷ xs) = ap (λ b. p (f x) || b) (any-map p f xs)

-- ... of those that are picked
pub any-picked : {A : Type 0} (p : A → Bool) (f : Entry → A) (q : Entry → Bool) (xs : List Entry) (x : Entry) → IsIn xs x → q x ≡ true
    → p (f x) ≡ true → list_any p (map f (filter q xs)) ≡ true
any-picked p f q xs x i a b =
    subst (λ (c : Bool). c ≡ true) (sym (any-map p f (filter q xs))) (any-in (λ y. p (f y)) (filter q xs) x (filter-in q xs x i a) b)

pub record Picked {A : Type 0} (p : A → Bool) (f : Entry → A) (q : Entry → Bool) (xs : List Entry) : Type 0 where
  pub entry : Entry
  pub inside : IsIn xs entry
  pub picked : q entry ≡ true
  pub holds : p (f entry) ≡ true

pub picked-of : {A : Type 0} (p : A → Bool) (f : Entry → A) (q : Entry → Bool) (xs : List Entry)
    → list_any p (map f (filter q xs)) ≡ true → Picked p f q xs
picked-of p f q xs h =
    let m = any-holds (λ y. p (f y)) (filter q xs) (subst (λ (c : Bool). c ≡ true) (any-map p f (filter q xs)) h) in
    let n = in-filter q xs m.entry m.inside in
    record { entry = m.entry; inside = n.0; picked = n.1; holds = m.holds }
