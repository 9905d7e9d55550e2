-- Texts that begin alike are cut alike: after a text that both begin with, and after a number.
use Rattle.printed_laws.proofs.Vocabulary.{◌≡◌, ℕ, ◌^◌, ◌<◌, Bool, true, false, List, [], ◌∷◌, ◌++◌, get_or, drop, refl, sym, ap, subst}
use Rattle.printed_laws.proofs.Vocabulary.{◌∙◌, arith, length, All, ◌==◌, map, not, decimal, list_all, AllByRecursion, is_ascii_digit}
use Rattle.printed_laws.proofs.Vocabulary.{and_parts, and_from, decimal_injective, append_cancel_left, All-head, All-tail, IsWord}
use Rattle.printed_laws.proofs.Vocabulary.{nat_tests}
use Rattle.printed_laws.proofs.texts.Digits.{all-digits}

-- the text doesn't begin with such a byte
abbrev pub BeginsWithout : (ℕ → Bool) → List ℕ → Type 0
BeginsWithout p [] = Unit {0}
BeginsWithout p (b ∷ bs) = p b ≡ false

-- the text begins with no digit
abbrev pub Stops : List ℕ → Type 0
Stops text = BeginsWithout is_ascii_digit text

clash : (b : Bool) → b ≡ true → b ≡ false → ⊥
clash b is isnt = cc

-- texts that differ in the byte at this place
pub unlike : {A : Type 0} (n : ℕ) (xs ys : List ℕ) → (get_or xs n 0 == get_or ys n 0) ≡ false → xs ≡ ys → A
unlike n xs ys differ e = absurd (equal-bytes (get_or xs n 0) (get_or ys n 0) differ (ap (λ (l : List ℕ). get_or l n 0) e))
  where
    equal-bytes : (x y : ℕ) → (x == y) ≡ false → x ≡ y → ⊥
    equal-bytes x y differ first = grind (arith, nat_tests)

-- after a run of such bytes
pub run-cut : (p : ℕ → Bool) (xs ys rest other : List ℕ) → list_all p xs ≡ true → list_all p ys ≡ true → BeginsWithout p rest → BeginsWithout p other
    → xs ++ rest ≡ ys ++ other → (xs ≡ ys) × (rest ≡ other)
run-cut p [] [] rest other all all' stops stops' e = (refl, e)
run-cut p [] (y ∷ ys) rest other all all' stops stops' e = absurd (clash (p y) (and_parts _ _ all').0 (subst (BeginsWithout p) e stops))
run-cut p (x ∷ xs) [] rest other all all' stops stops' e = absurd (clash (p x) (and_parts _ _ all).0 (subst (BeginsWithout p) (sym e) stops'))
run-cut p (x ∷ xs) (y ∷ ys) rest other all all' stops stops' e =
    let first : x ≡ y = ap (λ (l : List ℕ). get_or l 0 0) e in
    let more = run-cut p xs ys rest other (and_parts _ _ all).1 (and_parts _ _ all').1 stops stops' (ap (λ (l : List ℕ). drop 1 l) e) in
    ((λ i. first i ∷ more.0 i), more.1)

-- after a number
pub number-cut : (m n : ℕ) (rest other : List ℕ) → m < 2 ^ 64 → n < 2 ^ 64 → Stops rest → Stops other
    → decimal m ++ rest ≡ decimal n ++ other → (m ≡ n) × (rest ≡ other)
number-cut m n rest other p q stops stops' e =
    let both = run-cut is_ascii_digit (decimal m) (decimal n) rest other (all-digits m) (all-digits n) stops stops' e in
    (decimal_injective m n p q both.0, both.1)

-- after a text and a number
pub next-cut : (front : List ℕ) (m n : ℕ) (rest other : List ℕ) → m < 2 ^ 64 → n < 2 ^ 64 → Stops rest → Stops other
    → front ++ (decimal m ++ rest) ≡ front ++ (decimal n ++ other) → (m ≡ n) × (rest ≡ other)
next-cut front m n rest other p q stops stops' e =
    number-cut m n rest other p q stops stops' (append_cancel_left front (decimal m ++ rest) (decimal n ++ other) e)

-- after texts that are known to be the same
pub same-cut : (xs ys rest other : List ℕ) → xs ≡ ys → xs ++ rest ≡ ys ++ other → rest ≡ other
same-cut xs ys rest other same e = append_cancel_left xs rest other (e ∙ ap (λ (l : List ℕ). l ++ other) (sym same))

-- ---- labels with a number behind each

-- the text begins with a byte that is no digit
abbrev pub is_label : List ℕ → Bool
is_label label = not (is_ascii_digit (get_or label 0 48))

-- each label with its number behind it, and then the rest
abbrev pub filled : List (List ℕ) → List ℕ → List ℕ → List ℕ
filled (label ∷ labels) (n ∷ numbers) rest = label ++ (decimal n ++ filled labels numbers rest)
filled _ _ rest = rest

abbrev pub AreSmall : List ℕ → Type 0
AreSmall = AllByRecursion (λ n. n < 2 ^ 64)

pub words-small : (words : List ℕ) → All IsWord words → AreSmall words
words-small [] all = tt
words-small (w ∷ ws) all = let word : IsWord w = All-head IsWord w ws all in (omega (arith, word), words-small ws (All-tail IsWord w ws all))

pub labels-are : {A : Type 0} (label : A → List ℕ) (xs : List A) → ((x : A) → is_label (label x) ≡ true) → list_all is_label (map label xs) ≡ true
labels-are label [] each = refl
labels-are label (x ∷ xs) each = and_from _ _ (each x) (labels-are label xs each)

pub filled-stops : (labels : List (List ℕ)) (numbers rest : List ℕ) → list_all is_label labels ≡ true → Stops rest → Stops (filled labels numbers rest)
filled-stops ((b ∷ bs) ∷ labels) (n ∷ numbers) rest are stops = no-digit (is_ascii_digit b) (and_parts _ _ are).0
  where
    no-digit : (b : Bool) → not b ≡ true → b ≡ false
    no-digit false is = refl
    no-digit true is = absurd cc
filled-stops ([] ∷ labels) (n ∷ numbers) rest are stops = let no : ⊥ = cc in absurd no
filled-stops labels numbers rest are stops = stops

pub filled-cut : (labels : List (List ℕ)) (ms ns rest other : List ℕ)
    → list_all is_label labels ≡ true
    → length ms ≡ length labels
    → length ns ≡ length labels
    → AreSmall ms
    → AreSmall ns
    → Stops rest → Stops other → filled labels ms rest ≡ filled labels ns other → (ms ≡ ns) × (rest ≡ other)
filled-cut [] [] [] rest other are m n p q stops stops' e = (refl, e)
filled-cut (label ∷ labels) (x ∷ xs) (y ∷ ys) rest other are m n p q stops stops' e =
    let more = (and_parts (is_label label) (list_all is_label labels) are).1 in
    let first =
    next-cut label x y (filled labels xs rest) (filled labels ys other) p.0 q.0
    (filled-stops labels xs rest more stops) (filled-stops labels ys other more stops') e in
    let further = filled-cut labels xs ys rest other more (omega (arith, m)) (omega (arith, n)) p.1 q.1 stops stops' first.1 in
    ((λ i. first.0 i ∷ further.0 i), further.1)
filled-cut _ _ _ rest other are m n p q stops stops' e = absurd (omega (arith, m, n))
