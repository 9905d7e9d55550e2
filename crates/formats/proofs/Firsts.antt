-- Each text of a format begins in one of the ways that are computed of it.
use Rattle.std.proofs.Common.{◌≡◌, ℕ, ◌<◌, ◌^◌, Bool, true, false, List, [], ◌∷◌, ◌++◌, refl, sym, ap, subst, ◌∙◌, zero, suc, ◌==◌, cond}
use Rattle.std.proofs.Common.{◌/◌, ◌%◌, ◌+◌, lt-ltb, le-leb, arith, length, replicate}
use Rattle.std.specs.Fmt.{decimal, digits_onto, digit_glyph}
unfoldable use Rattle.std.specs.Fmt.{digits}
use Rattle.std.specs.List.{list_all, flat_map, AllByRecursion}
use Rattle.std.specs.Char.{is_ascii_digit}
use Rattle.std.proofs.lemmas.Bool.{and_parts, and_from, or_left, or_right}
use Rattle.std.proofs.lemmas.Bool.Decides.{nat_tests}
use Rattle.std.proofs.lemmas.Fmt.{decimal_nonempty}
use Rattle.std.proofs.lemmas.List.{append_assoc}
use Rattle.tso_terms.specs.Names.{begins_name, continues_name, is_name}
use Rattle.formats.specs.Formats.{Class, LocationName, AnyWord, is_in, This, That, Format, Nothing, Number, Word, Printable, Times, Lead}
use Rattle.formats.specs.Formats.{Trail, Both, Either, Many, Separated, Spelled, As, Value, text, FitsFormat}
use Rattle.formats.specs.Beginnings.{First, Numbered, Named, are_digits, is_numbered, begins_so, before, in_turn, firsts, with_text}
use Rattle.formats.proofs.Beginnings.{IsWhole, clash, text-before, so-left, so-right, so-once, so-before, so-before-word}

-- ---- words

digit-is : (d : ℕ) → d < 10 → is_ascii_digit (digit_glyph false d) ≡ true
digit-is d small =
    let glyph : digit_glyph false d ≡ 48 + d = ap (λ (b : Bool). cond b (48 + d) (87 + d)) (lt-ltb d 10 small) in
    ap is_ascii_digit glyph ∙ and_from _ _ (le-leb 48 (48 + d) (omega arith)) (le-leb (48 + d) 57 (omega arith))

either : (b : Bool) (xs ys : List ℕ) → list_all is_ascii_digit xs ≡ true → list_all is_ascii_digit ys ≡ true → list_all is_ascii_digit (cond b xs ys) ≡ true
either true xs ys p q = p
either false xs ys p q = q

onto-digits : (k n : ℕ) (acc : List ℕ) → list_all is_ascii_digit acc ≡ true → list_all is_ascii_digit (digits_onto k 10 false n acc) ≡ true
onto-digits zero n acc all = all
onto-digits (suc k) n acc all =
    let one_more : list_all is_ascii_digit (digit_glyph false (n % 10) ∷ acc) ≡ true = and_from _ _ (digit-is (n % 10) (omega arith)) all in
    either (n / 10 == 0) _ _ one_more (onto-digits k (n / 10) (digit_glyph false (n % 10) ∷ acc) one_more)

all-digits : (n : ℕ) → list_all is_ascii_digit (decimal n) ≡ true
unfolding digits
all-digits n = onto-digits 64 n [] refl

digit-continues : (d : ℕ) → is_ascii_digit d ≡ true → continues_name d ≡ true
digit-continues d is = grind (arith, nat_tests)

digits-continue : (ds : List ℕ) → list_all is_ascii_digit ds ≡ true → list_all continues_name ds ≡ true
digits-continue [] all = refl
digits-continue (d ∷ ds) all =
    let parts = and_parts (is_ascii_digit d) (list_all is_ascii_digit ds) all in
    and_from _ _ (digit-continues d parts.0) (digits-continue ds parts.1)

whole-digits : (ds : List ℕ) → 0 < length ds → list_all is_ascii_digit ds ≡ true → IsWhole ds × (are_digits ds ≡ true)
whole-digits [] some all = absurd (omega (arith, some))
whole-digits (d ∷ ds) some all = (digits-continue (d ∷ ds) all, all)

pub number-whole : (n : ℕ) → n < 2 ^ 64 → IsWhole (decimal n) × (is_numbered [] (decimal n) ≡ true)
number-whole n small = whole-digits (decimal n) (decimal_nonempty n small) (all-digits n)

begins-continues : (c : ℕ) → begins_name c ≡ true → continues_name c ≡ true
begins-continues c is = grind (arith, nat_tests)

name-whole : (word : List ℕ) → is_name word ≡ true → IsWhole word
name-whole [] is = clash false is refl
name-whole (c ∷ cs) is =
    let front = and_parts _ _ (and_parts _ _ is).0 in
    and_from _ _ (begins-continues c front.0) front.1

pub word-whole : (class : Class) (word : List ℕ) → is_in class word ≡ true → IsWhole word
word-whole LocationName word is = name-whole word (and_parts _ _ (and_parts _ _ is).0).0
word-whole AnyWord [] is = clash false is refl
word-whole AnyWord (c ∷ cs) is = is

-- ---- one after another

module _ {X : Type 0} (t : X → List ℕ) (F : X → Type 0) (step : List (List First) → List (List First))
    (each : (ways : List (List First)) (x : X) (rest : List ℕ) → F x → begins_so ways rest ≡ true → begins_so (step ways) (t x ++ rest) ≡ true) where
  pub so-in-turn : (ways : List (List First)) (xs : List X) (rest : List ℕ) → AllByRecursion F xs → begins_so ways rest ≡ true
      → begins_so (in_turn step ways) (flat_map t xs ++ rest) ≡ true
  so-in-turn ways [] rest all is = so-once (ways ++ step ([] ∷ [])) rest (so-left ways (step ([] ∷ [])) rest is)
  so-in-turn ways (x ∷ xs) rest all is =
      so-once (ways ++ step ([] ∷ [])) ((t x ++ flat_map t xs) ++ rest)
      (so-right ways (step ([] ∷ [])) ((t x ++ flat_map t xs) ++ rest)
      (subst (λ l. begins_so (step ([] ∷ [])) l ≡ true) (sym (append_assoc (t x) (flat_map t xs) rest)) (each ([] ∷ []) x (flat_map t xs ++ rest) all.0 refl)))

-- ---- each format

-- with texts joined the other way
regroup : (ways : List (List First)) (front back rest : List ℕ)
    → begins_so ways (front ++ (back ++ rest)) ≡ true
    → begins_so ways ((front ++ back) ++ rest) ≡ true
regroup ways front back rest is = subst (λ l. begins_so ways l ≡ true) (sym (append_assoc front back rest)) is

times-begin : (byte : ℕ) (ways : List (List First)) (n : ℕ) (rest : List ℕ) → begins_so ways rest ≡ true
    → begins_so (with_text (byte ∷ []) [] ∷ ways) (replicate n byte ++ rest) ≡ true
times-begin byte ways zero rest is = or_right _ _ is
times-begin byte ways (suc n) rest is = or_left _ _ (text-before (byte ∷ []) [] (replicate n byte ++ rest) refl)

pub firsts-begin : (f : Format) (ways : List (List First)) (x : Value f) (rest : List ℕ)
    → FitsFormat f x
    → begins_so ways rest ≡ true
    → begins_so (firsts f ways) (text f x ++ rest) ≡ true
firsts-begin Nothing ways x rest fits is = is
firsts-begin Number ways n rest fits is =
    let whole = number-whole n fits in
    so-before-word (Numbered []) ways (decimal n) rest whole.0 whole.1 is
firsts-begin (Word class) ways word rest fits is = so-before-word (Named class) ways word rest (word-whole class word fits) fits is
firsts-begin Printable ways bytes rest fits is = refl
firsts-begin (Times byte) ways n rest fits is = times-begin byte ways n rest is
firsts-begin (Lead front f) ways x rest fits is =
    regroup (firsts (Lead front f) ways) front (text f x) rest (so-before front (firsts f ways) (text f x ++ rest) (firsts-begin f ways x rest fits is))
firsts-begin (Trail f back) ways x rest fits is =
    regroup (firsts (Trail f back) ways) (text f x) back rest (firsts-begin f (before back ways) x (back ++ rest) fits (so-before back ways rest is))
firsts-begin (Both f g) ways x rest fits is =
    regroup (firsts (Both f g) ways) (text f x.0) (text g x.1) rest
    (firsts-begin f (firsts g ways) x.0 (text g x.1 ++ rest) fits.0 (firsts-begin g ways x.1 rest fits.1 is))
firsts-begin (Either f g) ways (This x) rest fits is =
    so-once (firsts f ways ++ firsts g ways) (text f x ++ rest)
    (so-left (firsts f ways) (firsts g ways) (text f x ++ rest) (firsts-begin f ways x rest fits is))
firsts-begin (Either f g) ways (That y) rest fits is =
    so-once (firsts f ways ++ firsts g ways) (text g y ++ rest)
    (so-right (firsts f ways) (firsts g ways) (text g y ++ rest) (firsts-begin g ways y rest fits is))
firsts-begin (Many f) ways xs rest fits is =
    so-in-turn (text f) (FitsFormat f) (firsts f) (λ w x r fit at. firsts-begin f w x r fit at) ways xs rest fits is
firsts-begin (Separated between f) ways [] rest fits is = absurd fits.0
firsts-begin (Separated between f) ways (x ∷ xs) rest fits is =
    let step = λ (w : List (List First)). before between (firsts f w) in
    let one = λ (y : Value f). between ++ text f y in
    let more = in_turn step ways in
    let each : (w : List (List First)) (y : Value f) (r : List ℕ) → FitsFormat f y → begins_so w r ≡ true → begins_so (step w) (one y ++ r) ≡ true
    = λ w y r fit at. regroup (step w) between (text f y) r (so-before between (firsts f w) (text f y ++ r) (firsts-begin f w y r fit at)) in
    regroup (firsts f more) (text f x) (flat_map one xs) rest
    (firsts-begin f more x (flat_map one xs ++ rest) fits.1.0 (so-in-turn one (FitsFormat f) step each ways xs rest fits.1.1 is))
firsts-begin (Spelled f) ways spelled rest fits is =
    subst (λ l. begins_so (firsts f ways) (l ++ rest) ≡ true) fits.2 (firsts-begin f ways fits.0 rest fits.1 is)
firsts-begin (As manner f) ways x rest fits is = firsts-begin f ways x rest fits is
