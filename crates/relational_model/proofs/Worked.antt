-- The sources of a candidate's reads, told entry by entry; and lists in which nothing is picked.
use Rattle.relational_model.proofs.Vocabulary.{◌≡◌, ℕ, suc, Bool, true, false, ◌==◌, arith, List, [], ◌∷◌, ◌++◌, refl, sym, ap, ◌∙◌, subst}
use Rattle.relational_model.proofs.Vocabulary.{append_assoc, filter, nat_tests, is_read, counting, Entry, Candidate, last_in, append-nil}

-- each read of the list, which comes after `front`, has its source
abbrev pub SourcesFrom : Candidate → List Entry → List Entry → Type 0
SourcesFrom c front [] = Unit {0}
SourcesFrom c front (x ∷ xs) = (is_read x ≡ true → c.source x ≡ last_in (counting x front xs)) × SourcesFrom c (front ++ (x ∷ [])) xs

pub sources-from : (c : Candidate) (front xs middle : List Entry) (r : Entry) (back : List Entry) → SourcesFrom c front xs
    → xs ≡ middle ++ (r ∷ back) → is_read r ≡ true
    → c.source r ≡ last_in (counting r (front ++ middle) back)
sources-from c front [] [] r back h e read = let z : ⊥ = cc in absurd z
sources-from c front [] (m ∷ ms) r back h e read = let z : ⊥ = cc in absurd z
sources-from c front (x ∷ xs) [] r back h e read =
    let head : x ≡ r = cc in
    let tail : xs ≡ back = cc in
    subst (λ y. c.source y ≡ last_in (counting y (front ++ []) back)) head
    (subst (λ b. c.source x ≡ last_in (counting x (front ++ []) b)) tail
    (subst (λ f. c.source x ≡ last_in (counting x f xs)) (sym (append-nil front))
    (h.0 (subst (λ y. is_read y ≡ true) (sym head) read))))
sources-from c front (x ∷ xs) (m ∷ ms) r back h e read =
    let head : x ≡ m = cc in
    let tail : xs ≡ ms ++ (r ∷ back) = cc in
    subst (λ f. c.source r ≡ last_in (counting r f back)) (append_assoc front (x ∷ []) ms ∙ ap (λ y. front ++ (y ∷ ms)) head)
    (sources-from c (front ++ (x ∷ [])) xs ms r back h.1 tail read)

-- the test picks none of them
abbrev pub Without : (Entry → Bool) → List Entry → Type 0
Without p [] = Unit {0}
Without p (x ∷ xs) = (p x ≡ false) × Without p xs

pub filter-none : (p : Entry → Bool) (xs : List Entry) → Without p xs → filter p xs ≡ []
filter-none p [] h = refl
filter-none p (x ∷ xs) h = rw h.0 (filter-none p xs h.1)

-- a third location is neither of the first two
pub not-first : (n : ℕ) → (0 == suc (suc n)) ≡ false
not-first n = grind (arith, nat_tests)

pub not-second : (n : ℕ) → (1 == suc (suc n)) ≡ false
not-second n = grind (arith, nat_tests)
