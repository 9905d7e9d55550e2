-- The digits of a number, however great, and texts that are cut where a byte comes last.
use Rattle.printed_laws.proofs.Vocabulary.{◌≡◌, ℕ, ◌<◌, Bool, true, false, List, [], ◌∷◌, ◌++◌, get_or, drop, refl, sym, ap, subst, ◌∙◌}
use Rattle.printed_laws.proofs.Vocabulary.{zero, suc, arith, ◌+◌, ◌==◌, cond, not, ◌/◌, ◌%◌, lt-ltb, le-leb, eq-eqb, decimal, list_all}
use Rattle.printed_laws.proofs.Vocabulary.{is_ascii_digit, and_parts, and_from, nat_tests, list_all-append, digits, digits_onto}
use Rattle.printed_laws.proofs.Vocabulary.{digit_glyph}

-- ---- digits

digit-is : (d : ℕ) → d < 10 → is_ascii_digit (digit_glyph false d) ≡ true
digit-is d small =
    let glyph : digit_glyph false d ≡ 48 + d = ap (λ (b : Bool). cond b (48 + d) (87 + d)) (lt-ltb d 10 small) in
    ap is_ascii_digit glyph ∙ and_from _ _ (le-leb 48 (48 + d) (omega arith)) (le-leb (48 + d) 57 (omega arith))

either : (b : Bool) (xs ys : List ℕ) → list_all is_ascii_digit xs ≡ true → list_all is_ascii_digit ys ≡ true → list_all is_ascii_digit (cond b xs ys) ≡ true
either true xs ys p q = p
either false xs ys p q = q

onto-digits : (k n : ℕ) (acc : List ℕ) → list_all is_ascii_digit acc ≡ true → list_all is_ascii_digit (digits_onto k 10 false n acc) ≡ true
onto-digits zero n acc all = all
onto-digits (suc k) n acc all =
    let one_more : list_all is_ascii_digit (digit_glyph false (n % 10) ∷ acc) ≡ true = and_from _ _ (digit-is (n % 10) (omega arith)) all in
    either (n / 10 == 0) _ _ one_more (onto-digits k (n / 10) (digit_glyph false (n % 10) ∷ acc) one_more)

pub all-digits : (n : ℕ) → list_all is_ascii_digit (decimal n) ≡ true
unfolding digits
all-digits n = onto-digits 64 n [] refl

pub digits-are : (p : ℕ → Bool) (bs : List ℕ) → ((b : ℕ) → is_ascii_digit b ≡ true → p b ≡ true) → list_all is_ascii_digit bs ≡ true → list_all p bs ≡ true
digits-are p [] each all = refl
digits-are p (b ∷ bs) each all =
    let parts = and_parts (is_ascii_digit b) (list_all is_ascii_digit bs) all in
    and_from _ _ (each b parts.0) (digits-are p bs each parts.1)

-- ---- texts without a byte

abbrev pub is_other : ℕ → ℕ → Bool
is_other byte b = not (b == byte)

pub both-other : (byte : ℕ) (xs ys : List ℕ)
    → list_all (is_other byte) xs ≡ true
    → list_all (is_other byte) ys ≡ true
    → list_all (is_other byte) (xs ++ ys) ≡ true
both-other byte xs ys p q = list_all-append (is_other byte) xs ys ∙ and_from _ _ p q

pub there : (byte : ℕ) (xs ys : List ℕ) → list_all (is_other byte) (xs ++ byte ∷ ys) ≡ true → ⊥
there byte [] ys all = clash (byte == byte) (eq-eqb byte byte refl) (and_parts _ _ all).0
  where
    clash : (b : Bool) → b ≡ true → not b ≡ true → ⊥
    clash b is isnt = cc
there byte (x ∷ xs) ys all = there byte xs ys (and_parts _ _ all).1

-- of texts that are cut where the byte comes last
pub last-cut : (byte : ℕ) (xs ys a b : List ℕ)
    → list_all (is_other byte) a ≡ true
    → list_all (is_other byte) b ≡ true
    → xs ++ byte ∷ a ≡ ys ++ byte ∷ b
    → (xs ≡ ys) × (a ≡ b)
last-cut byte [] [] a b p q e = (refl, ap (λ (l : List ℕ). drop 1 l) e)
last-cut byte [] (y ∷ ys) a b p q e = absurd (there byte ys b (subst (λ (l : List ℕ). list_all (is_other byte) l ≡ true) (ap (λ (l : List ℕ). drop 1 l) e) p))
last-cut byte (x ∷ xs) [] a b p q e =
    absurd (there byte xs a (subst (λ (l : List ℕ). list_all (is_other byte) l ≡ true) (sym (ap (λ (l : List ℕ). drop 1 l) e)) q))
last-cut byte (x ∷ xs) (y ∷ ys) a b p q e =
    let first : x ≡ y = ap (λ (l : List ℕ). get_or l 0 0) e in
    let more = last-cut byte xs ys a b p q (ap (λ (l : List ℕ). drop 1 l) e) in
    ((λ i. first i ∷ more.0 i), more.1)

-- ---- numbers in a word, and in a line

pub number-no-space : (n : ℕ) → list_all (is_other 32) (decimal n) ≡ true
number-no-space n = digits-are (is_other 32) (decimal n) no-space (all-digits n)
  where
    no-space : (b : ℕ) → is_ascii_digit b ≡ true → is_other 32 b ≡ true
    no-space b is = grind (arith, nat_tests)

pub number-in-line : (n : ℕ) → list_all (is_other 10) (decimal n) ≡ true
number-in-line n = digits-are (is_other 10) (decimal n) no-feed (all-digits n)
  where
    no-feed : (b : ℕ) → is_ascii_digit b ≡ true → is_other 10 b ≡ true
    no-feed b is = grind (arith, nat_tests)
