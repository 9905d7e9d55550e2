-- Facts on places in lists of entries.
use Rattle.relational_model.proofs.Vocabulary.{◌≡◌, ◌<◌, ℕ, zero, suc, Bool, true, false, if◌then◌else◌, List, [], ◌∷◌, ◌++◌, Some, None}
use Rattle.relational_model.proofs.Vocabulary.{slice_get, arith, refl, sym, ap, ◌∙◌, ◌⊎◌, inl, inr, subst, filter, Entry, IsIn, IsEarlier}
use Rattle.relational_model.proofs.Vocabulary.{last_in}

-- ---- members

pub in-case : (x : Entry) (xs : List Entry) (y : Entry) → IsIn (x ∷ xs) y → (y ≡ x) ⊎ IsIn xs y
in-case x xs y (zero, q) = inl (let e : y ≡ x = cc in e)
in-case x xs y (suc i, q) = inr (i, q)

pub in-first : (x : Entry) (xs : List Entry) (y : Entry) → y ≡ x → IsIn (x ∷ xs) y
in-first x xs y e = (0, ap Some (sym e))

pub in-later : (x : Entry) (xs : List Entry) (y : Entry) → IsIn xs y → IsIn (x ∷ xs) y
in-later x xs y (i, q) = (suc i, q)

pub in-none : (y : Entry) → IsIn [] y → ⊥
in-none y (i, q) = let z : ⊥ = cc in z

pub in-left : (xs ys : List Entry) (y : Entry) → IsIn xs y → IsIn (xs ++ ys) y
in-left [] ys y h = absurd (in-none y h)
in-left (x ∷ xs) ys y (zero, q) = (0, q)
in-left (x ∷ xs) ys y (suc i, q) = in-later x (xs ++ ys) y (in-left xs ys y (i, q))

pub in-right : (xs ys : List Entry) (y : Entry) → IsIn ys y → IsIn (xs ++ ys) y
in-right [] ys y h = h
in-right (x ∷ xs) ys y h = in-later x (xs ++ ys) y (in-right xs ys y h)

pub in-append : (xs ys : List Entry) (y : Entry) → IsIn (xs ++ ys) y → IsIn xs y ⊎ IsIn ys y
in-append [] ys y h = inr h
in-append (x ∷ xs) ys y (zero, q) = inl (0, q)
in-append (x ∷ xs) ys y (suc i, q) = elim (in-append xs ys y (i, q)) [ inl h ↦ inl (in-later x xs y h) | inr h ↦ inr h ]

pub in-filter : (p : Entry → Bool) (xs : List Entry) (y : Entry) → IsIn (filter p xs) y → IsIn xs y × (p y ≡ true)
in-filter p [] y h = absurd (in-none y h)
in-filter p (x ∷ xs) y h = go (p x) refl (in-filter p xs y) h
  where
    go : (b : Bool) → p x ≡ b → (IsIn (filter p xs) y → IsIn xs y × (p y ≡ true)) → IsIn (if b then x ∷ filter p xs else filter p xs) y
        → IsIn (x ∷ xs) y × (p y ≡ true)
    go true q rest (zero, e) = let same : y ≡ x = cc in ((0, e), ap p same ∙ q)
    go true q rest (suc i, e) = let r = rest (i, e) in (in-later x xs y r.0, r.1)
    go false q rest h = let r = rest h in (in-later x xs y r.0, r.1)

pub filter-in : (p : Entry → Bool) (xs : List Entry) (y : Entry) → IsIn xs y → p y ≡ true → IsIn (filter p xs) y
filter-in p [] y h t = absurd (in-none y h)
filter-in p (x ∷ xs) y h t = go (p x) refl (λ i. filter-in p xs y i t) (in-case x xs y h)
  where
    go : (b : Bool) → p x ≡ b → (IsIn xs y → IsIn (filter p xs) y) → (y ≡ x) ⊎ IsIn xs y
        → IsIn (if b then x ∷ filter p xs else filter p xs) y
    go true q rest (inl e) = in-first x (filter p xs) y e
    go true q rest (inr i) = in-later x (filter p xs) y (rest i)
    go false q rest (inl e) = absurd (let same : p y ≡ p x = ap p e in let z : ⊥ = cc in z)
    go false q rest (inr i) = rest i

-- at one place stands one entry
pub at-one : (xs : List Entry) (i j : ℕ) (a b : Entry) → slice_get xs i ≡ Some a → slice_get xs j ≡ Some b → i ≡ j → a ≡ b
at-one xs i j a b p q e = let r : slice_get xs j ≡ Some a = subst (λ k. slice_get xs k ≡ Some a) e p in let z : Some a ≡ Some b = sym r ∙ q in cc

-- where a list is cut at one of its members
pub record Cut (xs : List Entry) (y : Entry) : Type 0 where
  pub front : List Entry
  pub back : List Entry
  pub is : xs ≡ front ++ (y ∷ back)

pub cut : (xs : List Entry) (y : Entry) → IsIn xs y → Cut xs y
cut [] y h = absurd (in-none y h)
cut (x ∷ xs) y h = elim (in-case x xs y h) [
  | inl e ↦ record { front = []; back = xs; is = ap (λ z. z ∷ xs) (sym e) }
  | inr i ↦ let c = cut xs y i in record { front = x ∷ c.front; back = c.back; is = ap (λ zs. x ∷ zs) c.is }
]

-- ---- one member before another, by recursion

abbrev pub Precedes : Entry → Entry → List Entry → Type 0
Precedes a b [] = ⊥
Precedes a b (x ∷ xs) = ((a ≡ x) × IsIn xs b) ⊎ Precedes a b xs

precedes-at : (xs : List Entry) (a b : Entry) (i j : ℕ) → slice_get xs i ≡ Some a → slice_get xs j ≡ Some b → i < j → Precedes a b xs
precedes-at [] a b i j p q l = let z : ⊥ = cc in z
precedes-at (x ∷ xs) a b zero zero p q l = absurd (omega arith)
precedes-at (x ∷ xs) a b zero (suc j) p q l = inl (let e : a ≡ x = cc in e, (j, q))
precedes-at (x ∷ xs) a b (suc i) zero p q l = absurd (omega arith)
precedes-at (x ∷ xs) a b (suc i) (suc j) p q l = inr (precedes-at xs a b i j p q (omega arith))

pub to-precedes : (xs : List Entry) (a b : Entry) → IsEarlier xs a b → Precedes a b xs
to-precedes xs a b e = precedes-at xs a b e.first e.second e.is_first e.is_second e.before

pub from-precedes : (xs : List Entry) (a b : Entry) → Precedes a b xs → IsEarlier xs a b
from-precedes [] a b h = absurd h
from-precedes (x ∷ xs) a b (inl h) =
    record { first = 0; second = suc h.1.0; is_first = ap Some (sym h.0); is_second = h.1.1; before = omega arith }
from-precedes (x ∷ xs) a b (inr h) =
    let r = from-precedes xs a b h in
    record {
      first = suc r.first;
      second = suc r.second;
      is_first = r.is_first;
      is_second = r.is_second;
      before = let l : r.first < r.second = r.before in omega arith;
    }

pub precedes-first : (xs : List Entry) (a b : Entry) → Precedes a b xs → IsIn xs a
precedes-first [] a b h = absurd h
precedes-first (x ∷ xs) a b (inl h) = in-first x xs a h.0
precedes-first (x ∷ xs) a b (inr h) = in-later x xs a (precedes-first xs a b h)

pub precedes-second : (xs : List Entry) (a b : Entry) → Precedes a b xs → IsIn xs b
precedes-second [] a b h = absurd h
precedes-second (x ∷ xs) a b (inl h) = in-later x xs b h.1
precedes-second (x ∷ xs) a b (inr h) = in-later x xs b (precedes-second xs a b h)

pub precedes-filter : (p : Entry → Bool) (xs : List Entry) (a b : Entry) → Precedes a b (filter p xs) → Precedes a b xs
precedes-filter p [] a b h = h
precedes-filter p (x ∷ xs) a b h = go (p x) (precedes-filter p xs a b) h
  where
    go : (t : Bool) → (Precedes a b (filter p xs) → Precedes a b xs) → Precedes a b (if t then x ∷ filter p xs else filter p xs)
        → Precedes a b (x ∷ xs)
    go true rest (inl k) = inl (k.0, (in-filter p xs b k.1).0)
    go true rest (inr k) = inr (rest k)
    go false rest k = inr (rest k)

pub precedes-left : (xs ys : List Entry) (a b : Entry) → Precedes a b xs → Precedes a b (xs ++ ys)
precedes-left [] ys a b h = absurd h
precedes-left (x ∷ xs) ys a b (inl h) = inl (h.0, in-left xs ys b h.1)
precedes-left (x ∷ xs) ys a b (inr h) = inr (precedes-left xs ys a b h)

pub precedes-right : (xs ys : List Entry) (a b : Entry) → Precedes a b ys → Precedes a b (xs ++ ys)
precedes-right [] ys a b h = h
precedes-right (x ∷ xs) ys a b h = inr (precedes-right xs ys a b h)

pub precedes-across : (xs ys : List Entry) (a b : Entry) → IsIn xs a → IsIn ys b → Precedes a b (xs ++ ys)
precedes-across [] ys a b h k = absurd (in-none a h)
precedes-across (x ∷ xs) ys a b h k = elim (in-case x xs a h) [ inl e ↦ inl (e, in-right xs ys b k) | inr i ↦ inr (precedes-across xs ys a b i k) ]

pub precedes-parts : (xs ys : List Entry) (a b : Entry) → Precedes a b (xs ++ ys)
    → Precedes a b xs ⊎ ((IsIn xs a × IsIn ys b) ⊎ Precedes a b ys)
precedes-parts [] ys a b h = inr (inr h)
precedes-parts (x ∷ xs) ys a b (inl h) = elim (in-append xs ys b h.1) [ inl i ↦ inl (inl (h.0, i)) | inr i ↦ inr (inl (in-first x xs a h.0, i)) ]
precedes-parts (x ∷ xs) ys a b (inr h) =
    elim (precedes-parts xs ys a b h) [ inl p ↦ inl (inr p) | inr (inl p) ↦ inr (inl (in-later x xs a p.0, p.1)) | inr (inr p) ↦ inr (inr p) ]

-- ---- the last member

pub last-is-in : (xs : List Entry) (w : Entry) → last_in xs ≡ Some w → IsIn xs w
last-is-in [] w h = absurd (let z : ⊥ = cc in z)
last-is-in (x ∷ []) w h = (0, h)
last-is-in (x ∷ (y ∷ ys)) w h = in-later x (y ∷ ys) w (last-is-in (y ∷ ys) w h)

pub last-none : (xs : List Entry) (x : Entry) → last_in xs ≡ None → IsIn xs x → ⊥
last-none [] x h i = in-none x i
last-none (y ∷ []) x h i = let z : ⊥ = cc in z
last-none (y ∷ (z ∷ zs)) x h i = last-none (z ∷ zs) z h (0, refl)

pub last-last : (xs : List Entry) (w x : Entry) → last_in xs ≡ Some w → IsIn xs x → (x ≡ w) ⊎ Precedes x w xs
last-last [] w x h i = absurd (in-none x i)
last-last (y ∷ []) w x h i = elim (in-case y [] x i) [
  | inl e ↦ inl (let q : y ≡ w = cc in e ∙ q)
  | inr k ↦ absurd (in-none x k)
]
last-last (y ∷ (z ∷ zs)) w x h i = elim (in-case y (z ∷ zs) x i) [
  | inl e ↦ inr (inl (e, last-is-in (z ∷ zs) w h))
  | inr k ↦ elim (last-last (z ∷ zs) w x h k) [ inl e ↦ inl e | inr p ↦ inr (inr p) ]
]
