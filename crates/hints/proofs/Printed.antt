-- What is shown is printable, and so a text.
use Rattle.std.proofs.Common.{◌≡◌, ◌++◌, ◌∷◌, [], List, ◌≤◌, ◌<◌, true, length, codes, map, take, arith, refl, ℕ, zero, suc, ap}
use Rattle.std.specs.List.{list_all}
use Rattle.std.specs.Str.{IsUtf8}
use Rattle.std.proofs.Math.Nat.{min-le_left}
use Rattle.std.proofs.lemmas.Bool.{and_from}
use Rattle.std.proofs.lemmas.Bool.Decides.{nat_tests}
use Rattle.std.proofs.lemmas.List.Sums.{AllPass-from_list_all}
use Rattle.std.proofs.lemmas.List.Elements.{All-weaker}
use Rattle.std.proofs.lemmas.List.{length-map, length-append, length-take}
use Rattle.std.proofs.lemmas.Str.{IsUtf8-from_ascii}
use Rattle.std.proofs.lemmas.Str.Ascii.{IsAscii-from_all}
use Rattle.tso_terms.specs.Names.{is_printable}
use Rattle.hints.specs.Hint.{IsHint}
use Rattle.hints.specs.inner.Hint.{most_hint_bytes, shown_byte}

shown_is_printable : (c : ℕ) → is_printable (shown_byte c) ≡ true
unfolding shown_byte
shown_is_printable c = grind (arith, nat_tests)

pub shown_are_printable : (bytes : List ℕ) → list_all is_printable (map shown_byte bytes) ≡ true
shown_are_printable [] = refl
shown_are_printable (b ∷ bs) = and_from (is_printable (shown_byte b)) _ (shown_is_printable b) (shown_are_printable bs)

printable_ascii : (c : ℕ) → is_printable c ≡ true → c < 128
printable_ascii c h = grind (arith, nat_tests)

pub words_are_text : (bytes words : List ℕ) → words ≡ map shown_byte (take most_hint_bytes bytes) → IsUtf8 words
words_are_text bytes words is =
    rw is (IsUtf8-from_ascii _
    (IsAscii-from_all _ (All-weaker (λ c. is_printable c ≡ true) (λ c. c < 128) printable_ascii _
    (AllPass-from_list_all is_printable _ (shown_are_printable (take most_hint_bytes bytes))))))

pub is_hint : (bytes words text : List ℕ) → words ≡ map shown_byte (take most_hint_bytes bytes) → text ≡ codes "hint: " ++ words ++ (10 ∷ []) → IsHint text
is_hint bytes words text shown is =
    let many : length words ≤ most_hint_bytes =
    rw (shown, length-map (take most_hint_bytes bytes) shown_byte, length-take most_hint_bytes bytes)
    (min-le_left most_hint_bytes (length bytes)) in
    record {
      words = words;
      is = is;
      printable = rw shown (shown_are_printable (take most_hint_bytes bytes));
      short = rw (is, length-append (codes "hint: ") (words ++ (10 ∷ [])), length-append words (10 ∷ [])) (omega (arith, many));
    }

-- so many first bytes as there are, and no more than there is room for
pub cut : (n at : ℕ) (xs : List ℕ) → at ≤ n → at ≤ length xs → (at < n → length xs ≤ at) → take at xs ≡ take n xs
cut zero zero xs a b h = refl
cut (suc n) zero [] a b h = refl
cut (suc n) zero (x ∷ xs) a b h = absurd (let z = h (omega arith) in omega (arith, z))
cut zero (suc at) xs a b h = absurd (omega (arith, a))
cut (suc n) (suc at) [] a b h = absurd (omega (arith, b))
cut (suc n) (suc at) (x ∷ xs) a b h =
    ap (λ r. x ∷ r) (cut n at xs (omega (arith, a)) (omega (arith, b)) (λ lt. let z = h (omega (arith, lt)) in omega (arith, z)))
