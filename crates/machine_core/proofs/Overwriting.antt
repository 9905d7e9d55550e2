-- A list whose first elements are written, one after the other from the front.
use Rattle.machine_core.proofs.Vocabulary.{◌≡◌, ℕ, zero, suc, ◌+◌, ◌<◌, List, [], ◌∷◌, length, map, slice_set, slice_index_or, refl, ap, ◌∙◌, subst, arith}

-- the first `n` elements are changed by their place, which is counted from `k`
abbrev pub written : {A : Type 0} → (ℕ → A → A) → ℕ → ℕ → List A → List A
written f k zero xs = xs
written f k (suc n) [] = []
written f k (suc n) (x ∷ xs) = f k x ∷ written f (k + 1) n xs

-- the next element is as it was
at-written : {A : Type 0} (f : ℕ → A → A) (k n : ℕ) (xs : List A) (d : A) → slice_index_or (written f k n xs) n d ≡ slice_index_or xs n d
at-written f k zero xs d = refl
at-written f k (suc n) [] d = refl
at-written f k (suc n) (x ∷ xs) d = at-written f (k + 1) n xs d

-- one more element
written-more : {A : Type 0} (f : ℕ → A → A) (k n j : ℕ) (xs : List A) (d : A) → n < length xs → j ≡ k + n
    → slice_set (written f k n xs) n (f j (slice_index_or xs n d)) ≡ written f k (suc n) xs
written-more f k n j [] d within is = absurd (omega arith)
written-more f k zero j (x ∷ xs) d within is = ap (λ i. f i x ∷ xs) (let z : j ≡ k = omega arith in z)
written-more f k (suc n) j (x ∷ xs) d within is = ap (λ ys. f k x ∷ ys) (written-more f (k + 1) n j xs d (omega arith) (omega arith))

length-written : {A : Type 0} (f : ℕ → A → A) (k n : ℕ) (xs : List A) → length (written f k n xs) ≡ length xs
length-written f k zero xs = refl
length-written f k (suc n) [] = refl
length-written f k (suc n) (x ∷ xs) = ap suc (length-written f (k + 1) n xs)

-- one more element of a list so far
pub written-next : {A : Type 0} (f : ℕ → A → A) (n : ℕ) (xs ys : List A) (d v : A) → ys ≡ written f 0 n xs → n < length ys → v ≡ f n (slice_index_or ys n d)
    → slice_set ys n v ≡ written f 0 (n + 1) xs
written-next f n xs ys d v so_far within made =
    let here : slice_index_or ys n d ≡ slice_index_or xs n d = ap (λ zs. slice_index_or zs n d) so_far ∙ at-written f 0 n xs d in
    let small : n < length xs = subst (λ m. n < m) (ap length so_far ∙ length-written f 0 n xs) within in
    ap (λ zs. slice_set zs n v) so_far ∙ ap (λ w. slice_set (written f 0 n xs) n w) (made ∙ ap (f n) here) ∙ written-more f 0 n n xs d small (omega arith)
    ∙ ap (λ m. written f 0 m xs) (let z : suc n ≡ n + 1 = omega arith in z)

-- all elements
written-all : {A : Type 0} (f : A → A) (k : ℕ) (xs : List A) → written (λ _ x. f x) k (length xs) xs ≡ map f xs
written-all f k [] = refl
written-all f k (x ∷ xs) = ap (λ ys. f x ∷ ys) (written-all f (k + 1) xs)

pub whole-written : {A : Type 0} (f : A → A) (n : ℕ) (xs ys : List A) → ys ≡ written (λ _ x. f x) 0 n xs → n ≡ length xs → ys ≡ map f xs
whole-written f n xs ys so_far all = so_far ∙ ap (λ m. written (λ _ x. f x) 0 m xs) all ∙ written-all f 0 xs
