-- Two lists with the same members, each once in the first, and of one length: the members that a test picks are as many.
use Rattle.relational_model.proofs.Vocabulary.{◌≡◌, ◌≤◌, ◌+◌, suc, Bool, true, false, not, if◌then◌else◌, List, [], ◌∷◌, ◌++◌, arith, refl}
use Rattle.relational_model.proofs.Vocabulary.{ap, ◌∙◌, inl, inr, subst, length, filter, Entry, IsIn, Once}
use Rattle.relational_model.proofs.Lists.{Cut, cut, in-case, in-first, in-later, in-append, in-left, in-right, in-filter, filter-in}
use Rattle.relational_model.proofs.Sources.{StandOnce}

pub once-of : (xs : List Entry) → StandOnce xs → Once xs
once-of [] h = tt
once-of (x ∷ xs) h = (
  λ i. let q : 0 ≡ suc i.0 = h 0 (suc i.0) x refl i.1 in let z : ⊥ = omega arith in z,
  once-of xs (λ i j e p q. let r : suc i ≡ suc j = h (suc i) (suc j) e p q in omega arith),
)

pub once-filter : (p : Entry → Bool) (xs : List Entry) → Once xs → Once (filter p xs)
once-filter p [] h = tt
once-filter p (x ∷ xs) h = go (p x) (once-filter p xs h.1)
  where
    go : (b : Bool) → Once (filter p xs) → Once (if b then x ∷ filter p xs else filter p xs)
    go true rest = (λ i. h.0 (in-filter p xs x i).0, rest)
    go false rest = rest

pub length-middle : (xs ys : List Entry) (e : Entry) → length (xs ++ (e ∷ ys)) ≡ suc (length (xs ++ ys))
length-middle [] ys e = refl
length-middle (x ∷ xs) ys e = ap suc (length-middle xs ys e)

-- members of another list, each once, are no more than it has
pub no-more : (xs ys : List Entry) → Once xs → ((x : Entry) → IsIn xs x → IsIn ys x) → length xs ≤ length ys
no-more [] ys o f = omega arith
no-more (x ∷ xs) ys o f =
    let k = cut ys x (f x (in-first x xs x refl)) in
    let size : length ys ≡ suc (length (k.front ++ k.back)) = ap length k.is ∙ length-middle k.front k.back x in
    let less : length xs ≤ length (k.front ++ k.back) = no-more xs (k.front ++ k.back) o.1 (inside k) in
    omega arith
  where
    inside : (k : Cut ys x) (y : Entry) → IsIn xs y → IsIn (k.front ++ k.back) y
    inside k y i = elim (in-append k.front (x ∷ k.back) y (subst (λ zs. IsIn zs y) k.is (f y (in-later x xs y i)))) [
      | inl a ↦ in-left k.front k.back y a
      | inr b ↦ elim (in-case x k.back y b) [ inl e ↦ absurd (o.0 (subst (IsIn xs) e i)) | inr b ↦ in-right k.front k.back y b ]
    ]

-- a list is what a test picks and what it leaves
pub picked-and-left : (p : Entry → Bool) (xs : List Entry) → length (filter p xs) + length (filter (λ e. not (p e)) xs) ≡ length xs
picked-and-left p [] = refl
picked-and-left p (x ∷ xs) = go (p x) (picked-and-left p xs)
  where
    go : (b : Bool) → length (filter p xs) + length (filter (λ e. not (p e)) xs) ≡ length xs
        → length (if b then x ∷ filter p xs else filter p xs) + length
        (if not b then x ∷ filter (λ e. not (p e)) xs else filter (λ e. not (p e)) xs) ≡ suc (length xs)
    go true h = omega (arith, h)
    go false h = omega (arith, h)

filtered : (p : Entry → Bool) (xs ys : List Entry) → Once xs → ((x : Entry) → IsIn xs x → IsIn ys x)
    → length (filter p xs) ≤ length (filter p ys)
filtered p xs ys o f =
    no-more (filter p xs) (filter p ys) (once-filter p xs o) (λ x i. let k = in-filter p xs x i in filter-in p ys x (f x k.0) k.1)

pub as-many : (p : Entry → Bool) (xs ys : List Entry) → Once xs → ((x : Entry) → IsIn xs x → IsIn ys x) → length xs ≡ length ys
    → length (filter p xs) ≡ length (filter p ys)
as-many p xs ys o f n =
    let a : length (filter p xs) ≤ length (filter p ys) = filtered p xs ys o f in
    let b : length (filter (λ e. not (p e)) xs) ≤ length (filter (λ e. not (p e)) ys) = filtered (λ e. not (p e)) xs ys o f in
    let c : length (filter p xs) + length (filter (λ e. not (p e)) xs) ≡ length xs = picked-and-left p xs in
    let d : length (filter p ys) + length (filter (λ e. not (p e)) ys) ≡ length ys = picked-and-left p ys in
    omega arith
