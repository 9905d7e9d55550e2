-- How many cases a case can come to: over its open questions the product of their answers. What is added to each factor has the search end.
use Rattle.found_reasons.proofs.Vocabulary.{◌≡◌, ◌≤◌, ◌+◌, ◌*◌, ◌&&◌, ◌||◌, ℕ, Bool, true, false, if◌then◌else◌, List, [], ◌∷◌, length}
use Rattle.found_reasons.proofs.Vocabulary.{Option, arith, refl, sym, ap, ◌∙◌, ◌⊎◌, inl, inr, subst, mul-le, Litmus, is_read, is_write}
use Rattle.found_reasons.proofs.Vocabulary.{writes_to, Entry, IsIn, in-case, in-none, Precedes, Known, bare, events_of, same_event}
use Rattle.found_reasons.proofs.Vocabulary.{is_event, nothing, with_source, sources_of, has_source, are_ordered, or-first, Holds, any-holds}
use Rattle.found_reasons.proofs.Vocabulary.{same-bare, product, sources_in, orders_in, all_orders, pick, pass}

-- ---- products

pub most-product : (f g : Entry → ℕ) → ((x : Entry) → f x ≤ g x) → (xs : List Entry) → product f xs ≤ product g xs
most-product f g h [] = omega arith
most-product f g h (x ∷ xs) = mul-le (f x) (product f xs) (g x) (product g xs) (h x) (most-product f g h xs)

times : (a b c : ℕ) → c * (a * b) ≡ (c * a) * b
times a b c = grind arith

pub swap : (a b c : ℕ) → c * (a * b) ≡ a * (c * b)
swap a b c = grind arith

-- one factor is c times as great
one-more : (c : ℕ) (f g : Entry → ℕ) → ((x : Entry) → f x ≤ g x) → (xs : List Entry) (y : Entry) → IsIn xs y → c * f y ≤ g y
    → c * product f xs ≤ product g xs
one-more c f g h [] y i l = absurd (in-none y i)
one-more c f g h (x ∷ xs) y i l = elim (in-case x xs y i) [
  | inl e ↦
      subst (λ n. n ≤ g x * product g xs) (sym (times (f x) (product f xs) c))
      (mul-le (c * f x) (product f xs) (g x) (product g xs) (subst (λ z. c * f z ≤ g z) e l) (most-product f g h xs))
  | inr j ↦
      subst (λ n. n ≤ g x * product g xs) (sym (swap (f x) (product f xs) c))
      (mul-le (f x) (c * product f xs) (g x) (product g xs) (h x) (one-more c f g h xs y j l))
]

abbrev pub pairs : (Entry → Entry → ℕ) → List Entry → ℕ
pairs f [] = 1
pairs f (w ∷ ws) = product (f w) ws * pairs f ws

most-pairs : (f g : Entry → Entry → ℕ) → ((x y : Entry) → f x y ≤ g x y) → (xs : List Entry) → pairs f xs ≤ pairs g xs
most-pairs f g h [] = omega arith
most-pairs f g h (x ∷ xs) =
    mul-le (product (f x) xs) (pairs f xs) (product (g x) xs) (pairs g xs) (most-product (f x) (g x) (h x) xs) (most-pairs f g h xs)

pub one-pair-more : (c : ℕ) (f g : Entry → Entry → ℕ) → ((x y : Entry) → f x y ≤ g x y) → (xs : List Entry) (a b : Entry) → Precedes a b xs
    → c * f a b ≤ g a b → c * pairs f xs ≤ pairs g xs
one-pair-more c f g h [] a b p l = absurd p
one-pair-more c f g h (x ∷ xs) a b (inl (e, i)) l =
    subst (λ n. n ≤ product (g x) xs * pairs g xs) (sym (times (product (f x) xs) (pairs f xs) c))
    (mul-le (c * product (f x) xs) (pairs f xs) (product (g x) xs) (pairs g xs)
    (one-more c (f x) (g x) (h x) xs b i (subst (λ z. c * f z b ≤ g z b) e l)) (most-pairs f g h xs))
one-pair-more c f g h (x ∷ xs) a b (inr p) l =
    subst (λ n. n ≤ product (g x) xs * pairs g xs) (sym (swap (product (f x) xs) (pairs f xs) c))
    (mul-le (product (f x) xs) (c * pairs f xs) (product (g x) xs) (pairs g xs) (most-product (f x) (g x) (h x) xs)
    (one-pair-more c f g h xs a b p l))

-- of two different events one stands before the other
pub either-first : (xs : List Entry) (a b : Entry) → IsIn xs a → IsIn xs b → (a ≡ b → ⊥) → Precedes a b xs ⊎ Precedes b a xs
either-first [] a b i j n = absurd (in-none a i)
either-first (x ∷ xs) a b i j n = go (in-case x xs a i) (in-case x xs b j) (λ k l. either-first xs a b k l n)
  where
    go : (a ≡ x) ⊎ IsIn xs a → (b ≡ x) ⊎ IsIn xs b → (IsIn xs a → IsIn xs b → Precedes a b xs ⊎ Precedes b a xs)
        → Precedes a b (x ∷ xs) ⊎ Precedes b a (x ∷ xs)
    go (inl e) (inl f) rest = absurd (n (e ∙ sym f))
    go (inl e) (inr l) rest = inl (inl (e, l))
    go (inr k) (inl f) rest = inr (inl (f, k))
    go (inr k) (inr l) rest = elim (rest k l) [ inl p ↦ inl (inr p) | inr p ↦ inr (inr p) ]

one-product : (f : Entry → ℕ) → ((x : Entry) → 1 ≤ f x) → (xs : List Entry) → 1 ≤ product f xs
one-product f h [] = omega arith
one-product f h (x ∷ xs) = mul-le 1 1 (f x) (product f xs) (h x) (one-product f h xs)

one-pairs : (f : Entry → Entry → ℕ) → ((x y : Entry) → 1 ≤ f x y) → (xs : List Entry) → 1 ≤ pairs f xs
one-pairs f h [] = omega arith
one-pairs f h (x ∷ xs) = mul-le 1 1 (product (f x) xs) (pairs f xs) (one-product (f x) (h x) xs) (one-pairs f h xs)

-- ---- the weight of a case

abbrev pub weigh_read : ℕ → Litmus → Known → Entry → ℕ
weigh_read e t k x = if has_source k x then 1 else (if is_read x then e + length (sources_of t x) else 1)

abbrev pub weigh_pair : ℕ → Known → Entry → Entry → ℕ
weigh_pair e k w v = if are_ordered k w v then 1 else (if is_write w && writes_to w.loc.0 v then e + 2 else 1)

abbrev pub weight : ℕ → Litmus → Known → ℕ
weight e t k = product (weigh_read e t k) (events_of t) * pairs (weigh_pair e k) (events_of t)

abbrev pub total : ℕ → Litmus → List Known → ℕ
total e t [] = 0
total e t (k ∷ ks) = weight e t k + total e t ks

one-read : (e : ℕ) (t : Litmus) (k : Known) (x : Entry) → 1 ≤ weigh_read e t k x
one-read e t k x = grind arith

one-pair : (e : ℕ) (k : Known) (w v : Entry) → 1 ≤ weigh_pair e k w v
one-pair e k w v = grind arith

pub some-weight : (e : ℕ) (t : Litmus) (k : Known) → 1 ≤ weight e t k
some-weight e t k =
    mul-le 1 1 (product (weigh_read e t k) (events_of t)) (pairs (weigh_pair e k) (events_of t))
    (one-product (weigh_read e t k) (one-read e t k) (events_of t)) (one-pairs (weigh_pair e k) (one-pair e k) (events_of t))

-- at first it is as many cases as there can be
product-same : (f g : Entry → ℕ) → ((x : Entry) → f x ≡ g x) → (xs : List Entry) → product f xs ≡ product g xs
product-same f g h [] = refl
product-same f g h (x ∷ xs) = ap (λ n. n * product f xs) (h x) ∙ ap (λ n. g x * n) (product-same f g h xs)

orders-same : (xs : List Entry) → pairs (weigh_pair 1 nothing) xs ≡ all_orders xs
orders-same [] = refl
orders-same (x ∷ xs) =
    ap (λ n. n * pairs (weigh_pair 1 nothing) xs) (product-same (weigh_pair 1 nothing x) (orders_in x) (λ y. refl) xs)
    ∙ ap (λ n. product (orders_in x) xs * n) (orders-same xs)

pub weight-at-first : (t : Litmus) → weight 1 t nothing ≡ product (sources_in t) (events_of t) * all_orders (events_of t)
weight-at-first t =
    ap (λ n. n * pairs (weigh_pair 1 nothing) (events_of t)) (product-same (weigh_read 1 t nothing) (sources_in t) (λ x. refl) (events_of t))
    ∙ ap (λ n. product (sources_in t) (events_of t) * n) (orders-same (events_of t))

-- ---- branches

-- more that is known weighs no more
pub less-if : (a b : Bool) (n : ℕ) → 1 ≤ n → (if a || b then 1 else n) ≤ (if b then 1 else n)
less-if a b n l = grind arith

open-read : (e : ℕ) (t : Litmus) (x : Entry) → 1 ≤ (if is_read x then e + length (sources_of t x) else 1)
open-read e t x = grind arith

pub open-pair : (e : ℕ) (w v : Entry) → 1 ≤ (if is_write w && writes_to w.loc.0 v then e + 2 else 1)
open-pair e w v = grind arith

-- a read that is asked for
pub source-weight : (e : ℕ) (t : Litmus) (k : Known) (r : Entry) (o : Option Entry) → is_event t r ≡ true → is_read r ≡ true → has_source k r ≡ false
    → (e + length (sources_of t r)) * weight e t (with_source k r o) ≤ weight e t k
source-weight e t k r o event read fresh =
    subst (λ n. n ≤ weight e t k) (sym (times (product (weigh_read e t j) (events_of t)) (pairs (weigh_pair e k) (events_of t)) c))
    (mul-le (c * product (weigh_read e t j) (events_of t)) (pairs (weigh_pair e k) (events_of t)) (product (weigh_read e t k) (events_of t))
    (pairs (weigh_pair e k) (events_of t))
    (one-more c (weigh_read e t j) (weigh_read e t k) (λ x. less-if (same_event r x) (has_source k x) _ (open-read e t x)) (events_of t) m.entry m.inside here)
    (omega arith))
  where
    j : Known
    j = with_source k r o

    c : ℕ
    c = e + length (sources_of t r)

    m : Holds (events_of t) (same_event r)
    m = any-holds (same_event r) (events_of t) event

    same : bare r ≡ bare m.entry
    same = same-bare r m.entry m.holds

    known : weigh_read e t j m.entry ≡ 1
    known = pick (has_source j m.entry) 1 _ (or-first (same_event r m.entry) (has_source k m.entry) m.holds)

    unknown : weigh_read e t k m.entry ≡ c
    unknown =
        subst (λ z. weigh_read e t k z ≡ c) same
        (pass (has_source k r) 1 _ fresh ∙ pick (is_read r) c 1 read)

    here : c * weigh_read e t j m.entry ≤ weigh_read e t k m.entry
    here = subst (λ n. c * weigh_read e t j m.entry ≤ n) (sym unknown) (subst (λ n. c * n ≤ c) (sym known) (omega arith))
