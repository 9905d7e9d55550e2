-- Where members of a list are in what is made of it.
use Rattle.possible_reads.proofs.Vocabulary.{◌≡◌, ℕ, zero, suc, Bool, true, false, if◌then◌else◌, List, [], ◌∷◌, ◌++◌, Some, refl, ap}
use Rattle.possible_reads.proofs.Vocabulary.{subst, map, filter, list_any, list_all, slice_get, and-both, or-either, inl, inr}

-- x is in this list
abbrev pub Among : {A : Type 0} → List A → A → Type 0
Among xs x = (i : ℕ) × (slice_get xs i ≡ Some x)

module _ {A : Type 0} where
  pub later : (y : A) (xs : List A) (x : A) → Among xs x → Among (y ∷ xs) x
  later y xs x a = (suc a.0, a.1)

  pub at-filter : (p : A → Bool) (xs : List A) (i : ℕ) (x : A) → slice_get xs i ≡ Some x → p x ≡ true → Among (filter p xs) x
  at-filter p [] i x h q = let z : ⊥ = cc in absurd z
  at-filter p (y ∷ ys) zero x h q = go (p y) refl
    where
      same : y ≡ x
      same = let e : y ≡ x = cc in e

      go : (b : Bool) → p y ≡ b → Among (if b then y ∷ filter p ys else filter p ys) x
      go true e = (0, ap Some same)
      go false e = let k : p y ≡ true = subst (λ z. p z ≡ true) (let s : x ≡ y = cc in s) q in let z : ⊥ = cc in absurd z
  at-filter p (y ∷ ys) (suc i) x h q = go (p y) (at-filter p ys i x h q)
    where
      go : (b : Bool) → Among (filter p ys) x → Among (if b then y ∷ filter p ys else filter p ys) x
      go true a = later y (filter p ys) x a
      go false a = a

  pub at-map : {B : Type 0} (f : A → B) (xs : List A) (i : ℕ) (x : A) → slice_get xs i ≡ Some x → slice_get (map f xs) i ≡ Some (f x)
  at-map f [] i x h = let z : ⊥ = cc in absurd z
  at-map f (y ∷ ys) zero x h = let e : y ≡ x = cc in ap (λ z. Some (f z)) e
  at-map f (y ∷ ys) (suc i) x h = at-map f ys i x h

  pub at-left : (xs ys : List A) (i : ℕ) (x : A) → slice_get xs i ≡ Some x → Among (xs ++ ys) x
  at-left [] ys i x h = let z : ⊥ = cc in absurd z
  at-left (y ∷ xs) ys zero x h = (0, h)
  at-left (y ∷ xs) ys (suc i) x h = later y (xs ++ ys) x (at-left xs ys i x h)

  pub at-right : (xs ys : List A) (i : ℕ) (x : A) → slice_get ys i ≡ Some x → Among (xs ++ ys) x
  at-right [] ys i x h = (i, h)
  at-right (y ∷ xs) ys i x h = later y (xs ++ ys) x (at-right xs ys i x h)

  pub all-at : (p : A → Bool) (xs : List A) (i : ℕ) (x : A) → list_all p xs ≡ true → slice_get xs i ≡ Some x → p x ≡ true
  all-at p [] i x h q = let z : ⊥ = cc in absurd z
  all-at p (y ∷ ys) zero x h q =
      let e : y ≡ x = cc in subst (λ z. p z ≡ true) e (and-both (p y) (list_all p ys) h).0
  all-at p (y ∷ ys) (suc i) x h q = all-at p ys i x (and-both (p y) (list_all p ys) h).1 q

  pub of-map : {B : Type 0} (f : A → B) (xs : List A) (i : ℕ) (y : B) → slice_get (map f xs) i ≡ Some y
      → (x : A) × ((slice_get xs i ≡ Some x) × (y ≡ f x))
  of-map f [] i y h = let z : ⊥ = cc in absurd z
  of-map f (x ∷ xs) zero y h = (x, (refl, let e : y ≡ f x = cc in e))
  of-map f (x ∷ xs) (suc i) y h = of-map f xs i y h

  -- a member that passes
  pub record Passing (p : A → Bool) (xs : List A) : Type 0 where
    pub number : ℕ
    pub member : A
    pub stands : slice_get xs number ≡ Some member
    pub passes : p member ≡ true

  pub any-passes : (p : A → Bool) (xs : List A) → list_any p xs ≡ true → Passing p xs
  any-passes p [] h = let z : ⊥ = cc in absurd z
  any-passes p (x ∷ xs) h = elim (or-either (p x) (list_any p xs) h) [
    | inl a ↦ record { number = 0; member = x; stands = refl; passes = a }
    | inr b ↦ let m = any-passes p xs b in record { number = suc m.number; member = m.member; stands = m.stands; passes = m.passes }
  ]
