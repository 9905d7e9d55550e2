-- Sums of numbers, from a place on: where they are all 0, where one alone isn't, and where two sums are the same.
use Rattle.std.proofs.Common.{◌≡◌, ◌≢◌, ◌<◌, ◌≤◌, ◌+◌, ◌⊎◌, ◌==◌, inl, inr, ℕ, zero, suc, Bool, true, false, if◌then◌else◌, refl, sym, ap, ◌∙◌, arith}
use Rattle.basic_laws.proofs.Basics.{decide, lt-or, test-true, test-false}

pub add-both : (a b c d : ℕ) → a ≡ b → c ≡ d → a + c ≡ b + d
add-both a b c d p q = omega (arith, p, q)

pub no-more : (a : ℕ) → a ≡ a + 0
no-more a = omega arith

pub from-none : (a : ℕ) → a ≡ 0 + a
from-none a = omega arith

pub add-third : (a x y s r : ℕ) → a ≡ x + y → y ≡ s + r → a ≡ (x + s) + r
add-third a x y s r p q = omega (arith, p, q)

-- a number, or 0 where a test holds
abbrev pub unless : Bool → ℕ → ℕ
unless b n = if b then 0 else n

pub unless-zero : (b : Bool) → unless b 0 ≡ 0
unless-zero true = refl
unless-zero false = refl

-- the sum of so many numbers from a place on
abbrev pub sum_from : (ℕ → ℕ) → ℕ → ℕ → ℕ
sum_from f at zero = 0
sum_from f at (suc count) = f at + sum_from f (at + 1) count

pub sum-none : (f : ℕ → ℕ) (at count : ℕ) → ((i : ℕ) → f i ≡ 0) → sum_from f at count ≡ 0
sum-none f at zero none = refl
sum-none f at (suc count) none = add-both (f at) 0 (sum_from f (at + 1) count) 0 (none at) (sum-none f (at + 1) count none)

pub sum-same : (f g : ℕ → ℕ) → ((i : ℕ) → f i ≡ g i) → (at count : ℕ) → sum_from f at count ≡ sum_from g at count
sum-same f g same at zero = refl
sum-same f g same at (suc count) = add-both (f at) (g at) (sum_from f (at + 1) count) (sum_from g (at + 1) count) (same at) (sum-same f g same (at + 1) count)

-- the numbers of the places behind
pub sum-later : (f : ℕ → ℕ) (at count : ℕ) → sum_from f (at + 1) count ≡ sum_from (λ i. f (i + 1)) at count
sum-later f at zero = refl
sum-later f at (suc count) = ap (λ (n : ℕ). f (at + 1) + n) (sum-later f (at + 1) count)

-- ---- one number alone

beyond : (i k : ℕ) → i < k → k ≢ i
beyond i k l e = omega (arith, l, e)

later : (i k : ℕ) → i < k → i < k + 1
later i k l = omega (arith, l)

sum-past : (f : ℕ → ℕ) (target at count : ℕ) → ((i : ℕ) → i ≢ target → f i ≡ 0) → target < at → sum_from f at count ≡ 0
sum-past f target at zero none l = refl
sum-past f target at (suc count) none l =
    add-both (f at) 0 (sum_from f (at + 1) count) 0 (none at (beyond target at l)) (sum-past f target (at + 1) count none (later target at l))

from-here : (at target : ℕ) → at ≤ target → target ≤ at → at ≡ target
from-here at target from back = omega (arith, from, back)

next-of : (at target : ℕ) → at ≡ target → target < at + 1
next-of at target is = omega (arith, is)

step-on : (at target : ℕ) → at < target → at + 1 ≤ target
step-on at target l = omega (arith, l)

as-far : (at target count : ℕ) → target < at + suc count → target < (at + 1) + count
as-far at target count l = omega (arith, l)

none-left : (at target : ℕ) → at ≤ target → target < at + 0 → ⊥
none-left at target from to = omega (arith, from, to)

sum-one : (f : ℕ → ℕ) (target at count : ℕ) → ((i : ℕ) → i ≢ target → f i ≡ 0) → at ≤ target → target < at + count → sum_from f at count ≡ f target
sum-one f target at zero none from to = absurd (none-left at target from to)
sum-one f target at (suc count) none from to = elim (lt-or target at) [
  | inl l ↦
      add-both (f at) 0 (sum_from f (at + 1) count) (f target) (none at (λ e. beyond at target l (sym e)))
      (sum-one f target (at + 1) count none (step-on at target l) (as-far at target count to))
      ∙ sym (from-none (f target))
  | inr back ↦
      let here : at ≡ target = from-here at target from back in
      add-both (f at) (f target) (sum_from f (at + 1) count) 0 (ap f here) (sum-past f target (at + 1) count none (next-of at target here))
      ∙ sym (no-more (f target))
]

from-first : (n : ℕ) → 0 ≤ n
from-first n = omega arith

below-all : (n count : ℕ) → n < count → n < 0 + count
below-all n count l = omega (arith, l)

-- of so many numbers of which one alone may be another than 0, and is 0 where it isn't among them
pub sum-alone : (f : ℕ → ℕ) (target count g : ℕ) → ((i : ℕ) → i ≢ target → f i ≡ 0) → f target ≡ g → (count ≤ target → g ≡ 0) → sum_from f 0 count ≡ g
sum-alone f target count g none here gone = elim (lt-or count target) [
  | inl within ↦ sum-one f target 0 count none (from-first target) (below-all target count within) ∙ here
  | inr past ↦ sum-none f 0 count (λ i. all-none past i (decide i target)) ∙ sym (gone past)
]
  where
    all-none : count ≤ target → (i : ℕ) → (i ≡ target) ⊎ (i ≢ target) → f i ≡ 0
    all-none past i (inl is) = ap f is ∙ (here ∙ gone past)
    all-none past i (inr apart) = none i apart

-- ---- all but one

abbrev pub of_others : ℕ → (ℕ → ℕ) → ℕ → ℕ
of_others k f i = unless (i == k) (f i)

pub others-none : (k : ℕ) (f : ℕ → ℕ) → ((i : ℕ) → i ≢ k → f i ≡ 0) → (i : ℕ) → of_others k f i ≡ 0
others-none k f none i = elim (decide i k) [
  | inl is ↦ ap (λ (b : Bool). unless b (f i)) (test-true i k is)
  | inr n ↦ ap (λ (b : Bool). unless b (f i)) (test-false i k n) ∙ none i n
]

pub others-same : (k : ℕ) (f g : ℕ → ℕ) → ((i : ℕ) → i ≢ k → f i ≡ g i) → (i : ℕ) → of_others k f i ≡ of_others k g i
others-same k f g same i = elim (decide i k) [
  | inl is ↦ ap (λ (b : Bool). unless b (f i)) (test-true i k is) ∙ sym (ap (λ (b : Bool). unless b (g i)) (test-true i k is))
  | inr n ↦ ap (unless (i == k)) (same i n)
]
