-- Locations keep their numbers as others appear.
use Rattle.litmus_reader.proofs.Vocabulary.{◌≡◌, ℕ, ◌≤◌, ◌<◌, Bool, true, false, cond, List, [], ◌∷◌, ◌++◌, length, refl, ◌∙◌, arith}
use Rattle.litmus_reader.proofs.Vocabulary.{list_any, position_or_len, bytes_eq, bytes_eq-Decides, length-append, numbered, number_of}
use Rattle.litmus_reader.proofs.Vocabulary.{with_name, list_any-append, ◌||◌}

abbrev pub Known : List (List ℕ) → List ℕ → Type 0
Known names x = list_any (bytes_eq x) names ≡ true

pub same_bytes : (x : List ℕ) → bytes_eq x x ≡ true
same_bytes x = (bytes_eq-Decides x x).1 refl

any_push : (p : List ℕ → Bool) (names : List (List ℕ)) (y : List ℕ) → list_any p names ≡ true → list_any p (names ++ y ∷ []) ≡ true
any_push p names y e = list_any-append p names (y ∷ []) ∙ rw e refl

any_last : (p : List ℕ → Bool) (names : List (List ℕ)) (y : List ℕ) → p y ≡ true → list_any p (names ++ y ∷ []) ≡ true
any_last p [] y e = rw e refl
any_last p (n ∷ ns) y e = by_first (any_last p ns y e) (p n) refl
  where
    by_first : list_any p (ns ++ y ∷ []) ≡ true → (b : Bool) → p n ≡ b → (p n || list_any p (ns ++ y ∷ [])) ≡ true
    by_first further true is = rw is refl
    by_first further false is = rw is further

place_push : (p : List ℕ → Bool) (names : List (List ℕ)) (y : List ℕ) → list_any p names ≡ true → position_or_len p (names ++ y ∷ []) ≡ position_or_len p names
place_push p [] y e = absurd cc
place_push p (n ∷ ns) y e = by_first (λ h. place_push p ns y h) (p n) refl e
  where
    by_first : (list_any p ns ≡ true → position_or_len p (ns ++ y ∷ []) ≡ position_or_len p ns)
        → (b : Bool) → p n ≡ b
        → (b || list_any p ns) ≡ true
        → position_or_len p (n ∷ ns ++ y ∷ []) ≡ position_or_len p (n ∷ ns)
    by_first further true is h = rw is refl
    by_first further false is h = let same = further h in rw is (omega (arith, same))

-- the last name is at its place, or was there before
place_last : (p : List ℕ → Bool) (names : List (List ℕ)) (y : List ℕ) → p y ≡ true → position_or_len p (names ++ y ∷ []) ≡ position_or_len p names
place_last p [] y e = rw e refl
place_last p (n ∷ ns) y e = by_first (place_last p ns y e) (p n) refl
  where
    by_first : position_or_len p (ns ++ y ∷ []) ≡ position_or_len p ns
        → (b : Bool) → p n ≡ b
        → position_or_len p (n ∷ ns ++ y ∷ []) ≡ position_or_len p (n ∷ ns)
    by_first further true is = rw is refl
    by_first further false is = rw is (omega (arith, further))

pub with_name_by : (P : List (List ℕ) → Type 0) (names : List (List ℕ)) (y : List ℕ)
    → (list_any (bytes_eq y) names ≡ true → P names)
    → (list_any (bytes_eq y) names ≡ false → P (names ++ y ∷ []))
    → P (with_name names y)
with_name_by P names y old new = by_test (list_any (bytes_eq y) names) refl
  where
    by_test : (b : Bool) → list_any (bytes_eq y) names ≡ b → P (cond (list_any (bytes_eq y) names) names (names ++ y ∷ []))
    by_test true is = rw is (old is)
    by_test false is = rw is (new is)

with_by : (P : List (List ℕ) → Type 0) (names : List (List ℕ)) (y : List ℕ)
    → (list_any (bytes_eq y) names ≡ true → P names)
    → P (names ++ y ∷ [])
    → P (with_name names y)
with_by P names y old new = with_name_by P names y old (λ _. new)

pub place_below : {A : Type 0} (p : A → Bool) (names : List A) → list_any p names ≡ true → position_or_len p names < length names
place_below p [] e = absurd cc
place_below p (n ∷ ns) e = by_first (λ h. place_below p ns h) (p n) refl e
  where
    by_first : (list_any p ns ≡ true → position_or_len p ns < length ns)
        → (b : Bool) → p n ≡ b
        → (b || list_any p ns) ≡ true
        → position_or_len p (n ∷ ns) < length (n ∷ ns)
    by_first further true is h = rw is (omega arith)
    by_first further false is h = let below = further h in rw is (omega (arith, below))

pub place_none : {A : Type 0} (p : A → Bool) (names : List A) → list_any p names ≡ false → position_or_len p names ≡ length names
place_none p [] e = refl
place_none p (n ∷ ns) e = by_first (λ h. place_none p ns h) (p n) refl e
  where
    by_first : (list_any p ns ≡ false → position_or_len p ns ≡ length ns)
        → (b : Bool) → p n ≡ b
        → (b || list_any p ns) ≡ false
        → position_or_len p (n ∷ ns) ≡ length (n ∷ ns)
    by_first further true is h = absurd cc
    by_first further false is h = let same = further h in rw is (omega (arith, same))

pub known_with : (names : List (List ℕ)) (x : List ℕ) → Known (with_name names x) x
known_with names x = with_by (λ l. Known l x) names x (λ is. is) (any_last (bytes_eq x) names x (same_bytes x))

pub number_with : (names : List (List ℕ)) (x : List ℕ) → number_of (with_name names x) x ≡ number_of names x
number_with names x = with_by (λ l. number_of l x ≡ number_of names x) names x (λ is. refl) (place_last (bytes_eq x) names x (same_bytes x))

pub known_more : (xs names : List (List ℕ)) (x : List ℕ) → Known names x → Known (numbered names xs) x
unfolding numbered
known_more [] names x is = is
known_more (y ∷ ys) names x is = known_more ys (with_name names y) x (with_by (λ l. Known l x) names y (λ _. is) (any_push (bytes_eq x) names y is))

pub number_more : (xs names : List (List ℕ)) (x : List ℕ) → Known names x → number_of (numbered names xs) x ≡ number_of names x
unfolding numbered
number_more [] names x is = refl
number_more (y ∷ ys) names x is =
    number_more ys (with_name names y) x (with_by (λ l. Known l x) names y (λ _. is) (any_push (bytes_eq x) names y is))
    ∙ with_by (λ l. number_of l x ≡ number_of names x) names y (λ _. refl) (place_push (bytes_eq x) names y is)

pub numbered_append : (xs ys names : List (List ℕ)) → numbered names (xs ++ ys) ≡ numbered (numbered names xs) ys
unfolding numbered
numbered_append [] ys names = refl
numbered_append (x ∷ xs) ys names = numbered_append xs ys (with_name names x)

grows_with : (names : List (List ℕ)) (y : List ℕ) → length names ≤ length (with_name names y)
grows_with names y = with_by (λ l. length names ≤ length l) names y (λ _. omega arith) (omega (arith, length-append names (y ∷ [])))

pub grows : (xs names : List (List ℕ)) → length names ≤ length (numbered names xs)
unfolding numbered
grows [] names = omega arith
grows (y ∷ ys) names = let a = grows_with names y in let b = grows ys (with_name names y) in omega (arith, a, b)

-- all of these are among the names
abbrev pub AllKnown : List (List ℕ) → List (List ℕ) → Type 0
AllKnown names [] = Unit {0}
AllKnown names (x ∷ xs) = Known names x × AllKnown names xs

pub all_known_more : (xs others names : List (List ℕ)) → AllKnown names xs → AllKnown (numbered names others) xs
all_known_more [] others names are = tt
all_known_more (x ∷ xs) others names are = (known_more others names x are.0, all_known_more xs others names are.1)

pub all_known : (xs names : List (List ℕ)) → AllKnown (numbered names xs) xs
unfolding numbered
all_known [] names = tt
all_known (x ∷ xs) names = (known_more xs (with_name names x) x (known_with names x), all_known xs (with_name names x))

pub known_parts : (xs ys names : List (List ℕ)) → AllKnown names (xs ++ ys) → AllKnown names xs × AllKnown names ys
known_parts [] ys names are = (tt, are)
known_parts (x ∷ xs) ys names are = let parts = known_parts xs ys names are.1 in ((are.0, parts.0), parts.1)
