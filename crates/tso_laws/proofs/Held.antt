-- The stores of a core that come before a place in its program, in the order of a list.
use Rattle.tso_laws.proofs.Vocabulary.{◌≡◌, ◌≢◌, ◌<◌, ◌≤◌, ℕ, ◌+◌, List, [], ◌∷◌, ◌++◌, Bool, true, false, length, arith, ap, sym, ◌∙◌}
use Rattle.tso_laws.proofs.Vocabulary.{refl, ◌⊎◌, inl, inr, subst, ◌==◌, ◌&&◌, nat_lt, if◌then◌else◌, ◌||◌, nat_tests, is_before, writes_to}
use Rattle.tso_laws.proofs.Vocabulary.{is_store, rank, part_of, is_store_kind, by-rank, and-true, and-false, Entry, Kind, R, W, Each}
use Rattle.tso_laws.proofs.Vocabulary.{Member, cases_Bool, decide, test-true, test-false}
use Rattle.tso_laws.proofs.Folds.{passes, last_word, last_own, passed}
use Rattle.tso_laws.proofs.Entries.{Fine, Ordered}

pub member-left : {A : Type 0} (e : A) (xs ys : List A) → Member e xs → Member e (xs ++ ys)
member-left e [] ys m = absurd m
member-left e (x ∷ xs) ys (inl q) = inl q
member-left e (x ∷ xs) ys (inr m) = inr (member-left e xs ys m)

pub member-right : {A : Type 0} (e : A) (xs ys : List A) → Member e ys → Member e (xs ++ ys)
member-right e [] ys m = m
member-right e (x ∷ xs) ys m = inr (member-right e xs ys m)

pub member-split : {A : Type 0} (e : A) (xs ys : List A) → Member e (xs ++ ys) → Member e xs ⊎ Member e ys
member-split e [] ys m = inr m
member-split e (x ∷ xs) ys (inl q) = inl (inl q)
member-split e (x ∷ xs) ys (inr m) = elim (member-split e xs ys m) [ inl a ↦ inl (inr a) | inr b ↦ inr b ]

pub each-of : {A : Type 0} (P : A → Type 0) (e : A) (xs : List A) → Each P xs → Member e xs → P e
each-of P e [] h m = absurd m
each-of P e (x ∷ xs) h (inl q) = subst P (sym q) h.0
each-of P e (x ∷ xs) h (inr m) = each-of P e xs h.1 m

-- no two entries have one core and one rank
abbrev pub Apart : Entry → Entry → Type 0
Apart x y = x.core.0 ≡ y.core.0 → rank x ≡ rank y → ⊥

abbrev pub Distinct : List Entry → Type 0
Distinct [] = Unit {0}
Distinct (x ∷ xs) = Each (Apart x) xs × Distinct xs

abbrev pub is_held : ℕ → ℕ → Entry → Bool
is_held k n y = is_store y && ((y.core.0 == k) && nat_lt y.place n)

abbrev pub held : ℕ → ℕ → List Entry → List Entry
held k n [] = []
held k n (y ∷ ys) = if is_held k n y then y ∷ held k n ys else held k n ys

pub store-rank : (e : Entry) → is_store e ≡ true → rank e ≡ e.place + e.place
store-rank e h = go e.kind refl h
  where
    go : (k : Kind) → e.kind ≡ k → is_store_kind k ≡ true → e.place + e.place + part_of e.kind ≡ e.place + e.place
    go W q h = rw q (omega arith)
    go _ q h = absurd (let z : ⊥ = cc in z)

same-test : (b : Bool) (c k p n : ℕ) → (c ≡ k → b ≡ true → p ≢ n) → (b && ((c == k) && nat_lt p (n + 1))) ≡ (b && ((c == k) && nat_lt p n))
same-test false c k p n f = refl
same-test true c k p n f = elim (decide c k) [
  | inl e ↦ rw (test-true c k e) (let other = f e refl in grind (arith, nat_tests))
  | inr e ↦ rw (test-false c k e) refl
]

pub held-same : (k n : ℕ) (ys : List Entry) → ((e : Entry) → Member e ys → e.core.0 ≡ k → is_store e ≡ true → e.place ≢ n) → held k (n + 1) ys ≡ held k n ys
held-same k n [] f = refl
held-same k n (y ∷ ys) f = rw (same-test (is_store y) y.core.0 k y.place n (f y (inl refl)), held-same k n ys (λ e m. f e (inr m))) refl

none-test : (b : Bool) (c k p n : ℕ) → (c ≡ k → b ≡ true → n ≤ p) → (b && ((c == k) && nat_lt p n)) ≡ false
none-test false c k p n f = refl
none-test true c k p n f = elim (decide c k) [
  | inl e ↦ rw (test-true c k e) (let l = f e refl in grind (arith, nat_tests))
  | inr e ↦ rw (test-false c k e) refl
]

pub held-none : (k n : ℕ) (ys : List Entry) → ((e : Entry) → Member e ys → e.core.0 ≡ k → is_store e ≡ true → n ≤ e.place) → held k n ys ≡ []
held-none k n [] f = refl
held-none k n (y ∷ ys) f = rw (none-test (is_store y) y.core.0 k y.place n (f y (inl refl))) (held-none k n ys (λ e m. f e (inr m)))

some-test : (b : Bool) (c k p n : ℕ) → c ≡ k → b ≡ true → p < n → (b && ((c == k) && nat_lt p n)) ≡ true
some-test b c k p n e h l = grind (arith, nat_tests)

not_before : (x y : Entry) → y.core.0 ≡ x.core.0 → is_before y x ≡ false → rank x ≤ rank y
not_before x y k h = let f : ((y.core.0 == x.core.0) && nat_lt (rank y) (rank x)) ≡ false = sym (by-rank y x) ∙ h in grind (arith, nat_tests)

pub is_store-kind : (e : Entry) → is_store e ≡ true → e.kind ≡ W
is_store-kind e h = go e.kind h
  where
    go : (k : Kind) → is_store_kind k ≡ true → k ≡ W
    go W h = refl
    go _ h = absurd (let z : ⊥ = cc in z)

-- stores of a core after one of its stores come after it in the program
store-after : (d k : ℕ) (x y : Entry) → Fine d k x y → Apart x y → x.core.0 ≡ k → is_store x ≡ true → y.core.0 ≡ k → is_store y ≡ true → x.place < y.place
store-after d k x y f a p w q u =
    go (is_before y x) refl
  where
    go : (t : Bool) → is_before y x ≡ t → x.place < y.place
    go true h =
        absurd (let g =
        (f q h).0 in
        let i = is_store-kind x w in
        let j = is_store-kind y u in
        let z : passes y.kind x.kind ≡ false = rw (i, j) refl in
        let e : ⊥ = cc in
        e)
    go false h =
        let l = not_before x y (q ∙ sym p) h in let r = store-rank x w in let s = store-rank y u in
        let n : x.place ≢ y.place = λ e. a (p ∙ sym q) (omega arith) in omega arith

pub held-more : (d k n : ℕ) (ys : List Entry) (e : Entry)
    → Ordered d k ys
    → Distinct ys
    → Member e ys
    → e.core.0 ≡ k
    → e.place ≡ n
    → is_store e ≡ true
    → held k (n + 1) ys ≡ held k n ys ++ (e ∷ [])
held-more d k n [] e o u m c p w = absurd m
held-more d k n (y ∷ ys) e o u (inl q) c p w =
    let a : is_held k (n + 1) y ≡ true =
    some-test (is_store y) y.core.0 k y.place (n + 1) (ap (λ z. z.core.0) (sym q) ∙ c) (ap is_store (sym q) ∙ w)
    (let r = ap (λ z. z.place) q in omega arith) in
    let b : is_held k n y ≡ false = none-test (is_store y) y.core.0 k y.place n (λ f g. let r = ap (λ z. z.place) q in omega arith) in
    rw (
      a,
      b,
      held-none k (n + 1) ys (λ x i f g. let l = later x i f g in omega arith),
      held-none k n ys (λ x i f g. let l = later x i f g in omega arith),
    )
    (ap (λ z. z ∷ []) (sym q))
  where
    later : (x : Entry) → Member x ys → x.core.0 ≡ k → is_store x ≡ true → n < x.place
    later x i f g =
        let r = ap (λ z. z.place) q in
        let l =
        store-after d k y x (each-of (λ z. Fine d k y z) x ys o.0 i) (each-of (Apart y) x ys u.0 i)
        (ap (λ z. z.core.0) (sym q) ∙ c) (ap is_store (sym q) ∙ w) f g in
        omega arith
held-more d k n (y ∷ ys) e o u (inr m) c p w =
    let s =
    same-test (is_store y) y.core.0 k y.place n
    (λ f g h.
    each-of (Apart y) e ys u.0 m (f ∙ sym c) (let a = store-rank y g in let b = store-rank e w in omega arith)) in
    let h = held-more d k n ys e o.1 u.1 m c p w in
    rw (s, h) (elim (cases_Bool (is_held k n y)) [ inl q ↦ rw q refl | inr q ↦ rw q refl ])

pub held-length : (k m n : ℕ) (ys : List Entry) → m ≤ n → length (held k m ys) ≤ length (held k n ys)
held-length k m n [] l = omega arith
held-length k m n (y ∷ ys) l = both (is_held k m y) (is_held k n y) (more (is_store y) y.core.0 y.place m n l) (held-length k m n ys l)
  where
    more : (b : Bool) (c p m n : ℕ) → m ≤ n → (b && ((c == k) && nat_lt p m)) ≡ true → (b && ((c == k) && nat_lt p n)) ≡ true
    more b c p m n l h = grind (arith, nat_tests)

    both : (a b : Bool)
        → (a ≡ true → b ≡ true)
        → length (held k m ys) ≤ length (held k n ys)
        → length (if a then y ∷ held k m ys else held k m ys) ≤ length (if b then y ∷ held k n ys else held k n ys)
    both true true f h = omega arith
    both true false f h = absurd (let g = f refl in let z : ⊥ = cc in z)
    both false true f h = omega arith
    both false false f h = h

-- for a load the stores that it passes are those held before its place
pub same-before : (x y : Entry) → x.kind ≡ R → (is_store y && is_before y x) ≡ is_held x.core.0 x.place y
same-before x y r = rw r (go y.kind)
  where
    alone : (b c : Bool) → (b || (c && false)) ≡ b
    alone true c = refl
    alone false true = refl
    alone false false = refl

    go : (k : Kind)
        → (is_store_kind k && ((y.core.0 == x.core.0) && (nat_lt y.place x.place || ((y.place == x.place) && false))))
        ≡ (is_store_kind k && ((y.core.0 == x.core.0) && nat_lt y.place x.place))
    go W = rw (alone (nat_lt y.place x.place) (y.place == x.place)) refl
    go _ = refl

pub held-passed : (x : Entry) (ys : List Entry) → x.kind ≡ R → length (held x.core.0 x.place ys) ≡ passed x ys
held-passed x [] r = refl
held-passed x (y ∷ ys) r =
    rw (
      same-before x y r,
      ← held-passed x ys r,
    ) (elim (cases_Bool (is_held x.core.0 x.place y)) [ inl q ↦ rw q refl | inr q ↦ rw q refl ])

pub own-held : (x : Entry) (ys : List Entry) (v : ℕ) → x.kind ≡ R → ((e : Entry) → Member e ys → is_before e x ≡ true → is_store e ≡ true)
    → last_own x ys v ≡ last_word x.loc.0 (held x.core.0 x.place ys) v
own-held x [] v r f = refl
own-held x (y ∷ ys) v r f = rw (← same-before x y r) (elim (cases_Bool (is_before y x)) [
  | inl q ↦
      rw (q, and-true (writes_to x.loc.0 y))
      (subst (λ b.
      last_own x ys (if writes_to x.loc.0 y then y.value else v)
      ≡ last_word x.loc.0 (if b && true then y ∷ held x.core.0 x.place ys else held x.core.0 x.place ys) v)
      (sym (f y (inl refl) q))
      (own-held x ys _ r (λ e m. f e (inr m))))
  | inr q ↦ rw (q, and-false (writes_to x.loc.0 y), and-false (is_store y)) (own-held x ys _ r (λ e m. f e (inr m)))
])
