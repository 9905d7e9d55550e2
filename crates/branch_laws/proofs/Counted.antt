-- Counting the entries of a list that pass a test on their place and on themselves.
use Rattle.std.proofs.Common.{◌≡◌, ℕ, ◌+◌, zero, suc, List, [], ◌∷◌, Some, filter, Bool, true, false, if◌then◌else◌, ◌<◌, ◌≤◌, length}
use Rattle.std.proofs.Common.{slice_get, arith, ap, sym, ◌∙◌, refl, subst}
use Rattle.basic_laws.specs.Types.{Entry}

abbrev pub one_if : Bool → ℕ
one_if true = 1
one_if false = 0

abbrev pub count : (ℕ → Entry → Bool) → ℕ → List Entry → ℕ
count p i [] = 0
count p i (e ∷ es) = one_if (p i e) + count p (i + 1) es

-- p lets through no more than q
abbrev pub Implies : (ℕ → Entry → Bool) → (ℕ → Entry → Bool) → ℕ → List Entry → Type 0
Implies p q i es = (k : ℕ) (e : Entry) → slice_get es k ≡ Some e → p (i + k) e ≡ true → q (i + k) e ≡ true

implies-rest : (p q : ℕ → Entry → Bool) (i : ℕ) (e : Entry) (es : List Entry) → Implies p q i (e ∷ es) → Implies p q (i + 1) es
implies-rest p q i e es f k x g h =
    subst (λ z. q z x ≡ true) (let z : i + suc k ≡ (i + 1) + k = omega arith in z)
    (f (suc k) x g (subst (λ z. p z x ≡ true) (let z : (i + 1) + k ≡ i + suc k = omega arith in z) h))

first-holds : (p q : ℕ → Entry → Bool) (i : ℕ) (e : Entry) (es : List Entry) → Implies p q i (e ∷ es) → p i e ≡ true → q i e ≡ true
first-holds p q i e es f h =
    subst (λ z. q z e ≡ true) (let z : i + 0 ≡ i = omega arith in z) (f 0 e refl (subst (λ z. p z e ≡ true) (let z : i ≡ i + 0 = omega arith in z) h))

one-le : (s t : Bool) → (s ≡ true → t ≡ true) → one_if s ≤ one_if t
one-le true true f = omega arith
one-le true false f = absurd (let z : false ≡ true = f refl in let y : ⊥ = cc in y)
one-le false true f = omega arith
one-le false false f = omega arith

pub count-le : (p q : ℕ → Entry → Bool) (i : ℕ) (es : List Entry) → Implies p q i es → count p i es ≤ count q i es
count-le p q i [] f = omega arith
count-le p q i (e ∷ es) f =
    let a = one-le (p i e) (q i e) (first-holds p q i e es f) in
    let b = count-le p q (i + 1) es (implies-rest p q i e es f) in
    omega arith

pub count-less : (p q : ℕ → Entry → Bool) (i : ℕ) (es : List Entry) (k : ℕ) (x : Entry) → Implies p q i es → slice_get es k ≡ Some x
    → p (i + k) x ≡ false → q (i + k) x ≡ true → count p i es < count q i es
count-less p q i [] k x f g a b = absurd (let z : ⊥ = cc in z)
count-less p q i (e ∷ es) zero x f g a b =
    let same : e ≡ x = cc in
    let none : one_if (p i e) ≡ 0 = ap one_if (subst (λ z. p i z ≡ false) (sym same) (subst (λ z. p z x ≡ false) (let z : i + 0 ≡ i = omega arith in z) a)) in
    let one : one_if (q i e) ≡ 1 = ap one_if (subst (λ z. q i z ≡ true) (sym same) (subst (λ z. q z x ≡ true) (let z : i + 0 ≡ i = omega arith in z) b)) in
    let r = count-le p q (i + 1) es (implies-rest p q i e es f) in
    omega arith
count-less p q i (e ∷ es) (suc k) x f g a b =
    let h = one-le (p i e) (q i e) (first-holds p q i e es f) in
    let r = count-less p q (i + 1) es k x (implies-rest p q i e es f) g
    (subst (λ z. p z x ≡ false) (let z : i + suc k ≡ (i + 1) + k = omega arith in z) a)
    (subst (λ z. q z x ≡ true) (let z : i + suc k ≡ (i + 1) + k = omega arith in z) b) in
    omega arith

-- no more pass than pass this test alone
pub count-filter : (p : ℕ → Entry → Bool) (t : Entry → Bool) (i : ℕ) (es : List Entry) → ((k : ℕ) (e : Entry) → p k e ≡ true → t e ≡ true)
    → count p i es ≤ length (filter t es)
count-filter p t i [] f = omega arith
count-filter p t i (e ∷ es) f = go (p i e) (t e) refl refl (count-filter p t (i + 1) es f)
  where
    go : (a b : Bool) → p i e ≡ a → t e ≡ b → count p (i + 1) es ≤ length (filter t es)
        → one_if a + count p (i + 1) es ≤ length (if b then e ∷ filter t es else filter t es)
    go true true q r l = omega arith
    go true false q r l = absurd (let z : false ≡ true = sym r ∙ f i e q in let y : ⊥ = cc in y)
    go false true q r l = omega arith
    go false false q r l = omega arith
