-- Distinct members that all are in a list which is no longer leave room for no other.
use Rattle.order_breaches.proofs.Vocabulary.{◌≡◌, ◌<◌, ◌≤◌, ℕ, ◌+◌, suc, zero, List, [], ◌∷◌, ◌++◌, length, Some, slice_get, arith, ap, sym}
use Rattle.order_breaches.proofs.Vocabulary.{◌∙◌, ◌⊎◌, inl, inr, subst, refl, length-append, Member, member-at, Entry}

pub at-member : (xs : List Entry) (i : ℕ) (e : Entry) → slice_get xs i ≡ Some e → Member e xs
at-member [] i e h = absurd (let z : ⊥ = cc in z)
at-member (x ∷ xs) zero e h = inl (let z : e ≡ x = cc in z)
at-member (x ∷ xs) (suc i) e h = inr (at-member xs i e h)

abbrev pub Distinct : List Entry → Type 0
Distinct [] = Unit {0}
Distinct (x ∷ xs) = (Member x xs → ⊥) × Distinct xs

-- no entry is at two places of a list
abbrev pub OnePlace : List Entry → Type 0
OnePlace list = (i j : ℕ) (x : Entry) → j < i → slice_get list i ≡ Some x → slice_get list j ≡ Some x → ⊥

pub distinct-from : (list : List Entry) → OnePlace list → Distinct list
distinct-from [] n = tt
distinct-from (x ∷ xs) n = (
  λ m. let r = member-at x xs m in n (suc r.0) zero x (omega arith) r.1 refl,
  distinct-from xs (λ i j y l e f. n (suc i) (suc j) y (omega arith) e f),
)

pub distinct-one : (list : List Entry) → Distinct list → OnePlace list
distinct-one [] d i j x l e f = let z : ⊥ = cc in z
distinct-one (y ∷ ys) d zero j x l e f = absurd (omega arith)
distinct-one (y ∷ ys) d (suc i) zero x l e f = let q : y ≡ x = cc in d.0 (subst (λ z. Member z ys) (sym q) (at-member ys i x e))
distinct-one (y ∷ ys) d (suc i) (suc j) x l e f = distinct-one ys d.1 i j x (omega arith) e f

abbrev pub Within : List Entry → List Entry → Type 0
Within xs ys = (z : Entry) → Member z xs → Member z ys

-- a list cut at a member
record Cut (x : Entry) (ys : List Entry) : Type 0 where
  pub front : List Entry
  pub back : List Entry
  pub is : ys ≡ front ++ (x ∷ back)

cut_at : (x : Entry) (ys : List Entry) → Member x ys → Cut x ys
cut_at x [] h = absurd h
cut_at x (y ∷ ys) (inl e) = record { front = []; back = ys; is = ap (λ z. z ∷ ys) (sym e) }
cut_at x (y ∷ ys) (inr m) = let s = cut_at x ys m in record { front = y ∷ s.front; back = s.back; is = ap (λ z. y ∷ z) s.is }

removed : (z x : Entry) (front back : List Entry) → Member z (front ++ (x ∷ back)) → (z ≡ x) ⊎ Member z (front ++ back)
removed z x [] back m = m
removed z x (y ∷ ys) back (inl e) = inr (inl e)
removed z x (y ∷ ys) back (inr m) = elim (removed z x ys back m) [ inl e ↦ inl e | inr k ↦ inr (inr k) ]

-- without the first of them, the others are in what is left
rest-within : (x : Entry) (xs ys : List Entry) (c : Cut x ys) → (Member x xs → ⊥) → ((z : Entry) → Member z xs → Member z ys) → Within xs (c.front ++ c.back)
rest-within x xs ys c d w z m =
    elim (removed z x c.front c.back (subst (λ v. Member z v) c.is (w z m))) [ inl e ↦ absurd (d (subst (λ v. Member v xs) e m)) | inr k ↦ k ]

cut-length : (x : Entry) (ys : List Entry) (c : Cut x ys) → length ys ≡ suc (length (c.front ++ c.back))
cut-length x ys c =
    let n : length ys ≡ length c.front + suc (length c.back) = ap length c.is ∙ length-append c.front (x ∷ c.back) in
    let k = length-append c.front c.back in omega arith

pub no_fewer : (xs ys : List Entry) → Distinct xs → Within xs ys → length xs ≤ length ys
no_fewer [] ys d w = omega arith
no_fewer (x ∷ xs) ys d w =
    let c = cut_at x ys (w x (inl refl)) in
    let r = no_fewer xs (c.front ++ c.back) d.1 (rest-within x xs ys c d.0 (λ z m. w z (inr m))) in
    let n = cut-length x ys c in omega arith

distinct-insert : (x : Entry) (front back : List Entry) → Distinct (front ++ back) → (Member x (front ++ back) → ⊥) → Distinct (front ++ (x ∷ back))
distinct-insert x [] back d n = (n, d)
distinct-insert x (y ∷ ys) back d n =
    (λ m. elim (removed y x ys back m) [ inl e ↦ n (inl (sym e)) | inr k ↦ d.0 k ], distinct-insert x ys back d.1 (λ m. n (inr m)))

pub pigeon : (xs ys : List Entry) → Distinct xs → Within xs ys → length ys ≤ length xs → Within ys xs × Distinct ys
pigeon [] [] d w l = (λ z m. m, tt)
pigeon [] (y ∷ ys) d w l = absurd (omega arith)
pigeon (x ∷ xs) ys d w l =
    let c = cut_at x ys (w x (inl refl)) in
    let n = cut-length x ys c in
    let r = pigeon xs (c.front ++ c.back) d.1 (rest-within x xs ys c d.0 (λ z m. w z (inr m))) (omega arith) in (
      λ z m. elim (removed z x c.front c.back (subst (λ v. Member z v) c.is m)) [ inl e ↦ inl e | inr k ↦ inr (r.0 z k) ],
      subst (λ v. Distinct v) (sym c.is) (distinct-insert x c.front c.back r.1 (λ m. d.0 (r.0 x m))),
    )
