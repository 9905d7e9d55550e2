-- The number that hexadecimal digits say, digit by digit.
use Rattle.std.proofs.Common.{◌≡◌, ℕ, ◌+◌, ◌*◌, ◌<◌, ◌≤◌, ◌^◌, true, false, ltb, List, [], ◌∷◌, length, get_or, drop, Some, None, refl, sym}
use Rattle.std.proofs.Common.{ap, ◌∙◌, add-one, drop-cons, arith}
use Rattle.std.proofs.lemmas.Bool.{lt-ltb, le-ltb}
use Rattle.std.proofs.lemmas.List.{nil_from_length, length-drop}
use Rattle.std.specs.Char.{digit_value}
use Rattle.std.specs.Str.Parse.{digits_value_after}
use Rattle.litmus_tokens.specs.Numbers.{hexadecimal_value}
use Rattle.litmus_tokens.specs.Terms.{word_of}

pub sixteen_more : (ds : List ℕ) (i n : ℕ) → i < length ds
    → digits_value_after 16 n (drop i ds) ≡ digits_value_after 16 (n * 16 + digit_value (get_or ds i 0)) (drop (i + 1) ds)
sixteen_more ds i n lt = rw (add-one, drop-cons ds i 0) refl

sixteen-le : (n : ℕ) (ds : List ℕ) → n ≤ digits_value_after 16 n ds
sixteen-le n [] = omega arith
sixteen-le n (d ∷ ds) = let more = sixteen-le (n * 16 + digit_value d) ds in omega (arith, more)

-- a number that is too great already
pub sixteen_over : (n : ℕ) (digits rest : List ℕ)
    → digits_value_after 16 n rest ≡ hexadecimal_value digits
    → 4294967295 < n
    → word_of (hexadecimal_value digits) ≡ None
sixteen_over n digits rest same over =
    let no_word : ltb (hexadecimal_value digits) (2 ^ 32) ≡ false = le-ltb _ _ (omega (arith, sixteen-le n rest, same)) in
    rw no_word refl

pub sixteen_fits : (n : ℕ) (digits : List ℕ) (i : ℕ) → length digits ≤ i → digits_value_after 16 n (drop i digits) ≡ hexadecimal_value digits → n ≤ 4294967295
    → Some n ≡ word_of (hexadecimal_value digits)
sixteen_fits n digits i past same fits =
    let nothing : drop i digits ≡ [] = nil_from_length (drop i digits) (omega (arith, length-drop i digits)) in
    let is_n : n ≡ hexadecimal_value digits = sym (ap (digits_value_after 16 n) nothing) ∙ same in
    let is_word : ltb (hexadecimal_value digits) (2 ^ 32) ≡ true = lt-ltb _ _ (omega (arith, is_n)) in
    rw is_word (ap (λ (k : ℕ). Some k) is_n)

-- another digit, with which it is too great
pub sixteen_over_then : (n i : ℕ) (digits : List ℕ) → digits_value_after 16 n (drop i digits) ≡ hexadecimal_value digits → i < length digits
    → 4294967295 < n * 16 + digit_value (get_or digits i 0) → word_of (hexadecimal_value digits) ≡ None
sixteen_over_then n i digits same there over =
    sixteen_over (n * 16 + digit_value (get_or digits i 0)) digits (drop (i + 1) digits) (sym (sixteen_more digits i n there) ∙ same) over

pub ruleset sixteen_by_sixteen = (sixteen_more, sixteen_over, sixteen_over_then, sixteen_fits)
