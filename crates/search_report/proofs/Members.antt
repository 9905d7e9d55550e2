-- Members of lists, and lists in ascending order that have the same.
use Rattle.search_report.proofs.Vocabulary.{◌≡◌, ◌∙◌, ◌⊎◌, inl, inr, ◌<◌, ℕ, zero, suc, Bool, true, false, cond, List, [], ◌∷◌, ◌++◌, map}
use Rattle.search_report.proofs.Vocabulary.{filter, length, slice_index_or, Contains, Some, Less, Equal, refl, sym, ap, subst, arith}
use Rattle.search_report.proofs.Vocabulary.{AllByRecursion, IsStrictlySortedBy, ordering_reverse, nat_list_cmp_total, tied_itself}
use Rattle.std.specs.List.{slice_get}
use Rattle.search_report.proofs.Inserting.{R}

abbrev pub Member : {X : Type 0} → X → List X → Type 0
Member x [] = ⊥
Member x (y ∷ ys) = (x ≡ y) ⊎ Member x ys

pub to-member : {X : Type 0} (x : X) (xs : List X) → Contains xs x → Member x xs
to-member {X} x xs h = at xs h.0 h.1 h.2
  where
    at : (ys : List X) (k : ℕ) → k < length ys → slice_index_or ys k x ≡ x → Member x ys
    at [] k lt is = absurd (omega (arith, lt))
    at (y ∷ ys) zero lt is = inl (sym is)
    at (y ∷ ys) (suc k) lt is = inr (at ys k (omega (arith, lt)) is)

pub member-place : {X : Type 0} (x : X) (xs : List X) → Member x xs → (k : ℕ) × (slice_get xs k ≡ Some x)
member-place x [] m = absurd m
member-place x (y ∷ ys) (inl is) = (0, ap Some (sym is))
member-place x (y ∷ ys) (inr m) = let further = member-place x ys m in (suc further.0, further.1)

pub member-map : {X Y : Type 0} (f : X → Y) (y : Y) (xs : List X) → Member y (map f xs) → (x : X) × Member x xs × (y ≡ f x)
member-map f y [] m = absurd m
member-map f y (x ∷ xs) (inl is) = (x, inl refl, is)
member-map f y (x ∷ xs) (inr m) = let further = member-map f y xs m in (further.0, inr further.1, further.2)

pub member-left : {X : Type 0} (x : X) (xs ys : List X) → Member x xs → Member x (xs ++ ys)
member-left x [] ys m = absurd m
member-left x (z ∷ xs) ys (inl is) = inl is
member-left x (z ∷ xs) ys (inr m) = inr (member-left x xs ys m)

pub member-right : {X : Type 0} (x : X) (xs ys : List X) → Member x ys → Member x (xs ++ ys)
member-right x [] ys m = m
member-right x (z ∷ xs) ys m = inr (member-right x xs ys m)

pub member-filter : {X : Type 0} (p : X → Bool) (x : X) (xs : List X) → p x ≡ true → Member x xs → Member x (filter p xs)
member-filter p x [] passes m = absurd m
member-filter p x (y ∷ ys) passes m = by_test (p y) refl m (member-filter p x ys passes)
  where
    by_test : (b : Bool) → p y ≡ b → Member x (y ∷ ys) → (Member x ys → Member x (filter p ys)) → Member x (cond b (y ∷ filter p ys) (filter p ys))
    by_test true is (inl same) further = inl same
    by_test true is (inr n) further = inr (further n)
    by_test false is (inl same) further = absurd (let clash : true ≡ false = sym passes ∙ (ap p same ∙ is) in let none : ⊥ = cc in none)
    by_test false is (inr n) further = further n

pub member-each : {X : Type 0} (P : X → Type 0) (x : X) (xs : List X) → AllByRecursion P xs → Member x xs → P x
member-each P x [] h m = absurd m
member-each P x (y ∷ ys) h (inl is) = subst P (sym is) h.0
member-each P x (y ∷ ys) h (inr m) = member-each P x ys h.1 m

-- ---- lists of values in ascending order

not-below : (v w : List ℕ) → R v w ≡ Less → R w v ≡ Less → ⊥
not-below v w up down =
    let back : R w v ≡ ordering_reverse Less = nat_list_cmp_total.antisymm w v ∙ ap ordering_reverse up in
    let clash : Less ≡ ordering_reverse Less = sym down ∙ back in
    let none : ⊥ = cc in none

not-itself : (v : List ℕ) → R v v ≡ Less → ⊥
not-itself v less = let clash : Equal ≡ Less = sym (tied_itself nat_list_cmp_total v) ∙ less in let none : ⊥ = cc in none

-- what comes after the head of the one and is a member of the other comes after its head
past : (v w : List ℕ) (vs ws : List (List ℕ)) → v ≡ w → AllByRecursion (λ u. R v u ≡ Less) vs → (u : List ℕ) → Member u vs → Member u (w ∷ ws) → Member u ws
past v w vs ws e above u m (inl is) = absurd (not-itself u (subst (λ z. R z u ≡ Less) (e ∙ sym is) (member-each (λ z. R v z ≡ Less) u vs above m)))
past v w vs ws e above u m (inr n) = n

pub same-lists : (xs ys : List (List ℕ)) → IsStrictlySortedBy R xs → IsStrictlySortedBy R ys
    → ((v : List ℕ) → Member v xs → Member v ys) → ((v : List ℕ) → Member v ys → Member v xs) → xs ≡ ys
unfolding IsStrictlySortedBy
same-lists [] [] s t there back = refl
same-lists [] (y ∷ ys) s t there back = absurd (back y (inl refl))
same-lists (x ∷ xs) [] s t there back = absurd (there x (inl refl))
same-lists (x ∷ xs) (y ∷ ys) s t there back =
    ap (λ v. v ∷ xs) same
    ∙ ap (λ vs. y ∷ vs)
    (same-lists xs ys s.1 t.1 (λ u m. past x y xs ys same s.0 u m (there u (inr m))) (λ u m. past y x ys xs (sym same) t.0 u m (back u (inr m))))
  where
    heads : Member x (y ∷ ys) → Member y (x ∷ xs) → x ≡ y
    heads (inl is) n = is
    heads (inr m) (inl is) = sym is
    heads (inr m) (inr n) = absurd (not-below x y (member-each (λ v. R x v ≡ Less) y xs s.0 n) (member-each (λ v. R y v ≡ Less) x ys t.0 m))

    same : x ≡ y
    same = heads (there x (inl refl)) (back y (inl refl))
