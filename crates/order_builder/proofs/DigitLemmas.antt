-- A number read digit by digit: it is refused at the first byte that is no digit, and where it passes its limit.
use Rattle.order_builder.proofs.Vocabulary.{◌≡◌, ℕ, ◌+◌, ◌<◌, ◌≤◌, Bool, true, false, cond, List, [], length, get_or, drop}
use Rattle.order_builder.proofs.Vocabulary.{Option, Some, None, refl, ap, ◌∙◌, arith, list_all, is_ascii_digit, drop_more, nil_from_length, length-drop}
use Rattle.order_builder.proofs.Vocabulary.{decimal_from, decimal_value, number_up_to, is_number, number_within}
use Rattle.tso_terms.proofs.Digits.{decimal_more, number_over, number_fits}

pub digits_more : (text : List ℕ) (i : ℕ)
    → i < length text
    → is_ascii_digit (get_or text i 0) ≡ true
    → list_all is_ascii_digit (drop i text) ≡ list_all is_ascii_digit (drop (i + 1) text)
digits_more text i there digit = rw (drop_more text i 0 there, digit) refl

no_number : (most : ℕ) (text : List ℕ) → is_number text ≡ false → number_within most text ≡ None
unfolding number_within
no_number most text not = rw not refl

-- a byte that is no digit
pub number_stopped : (most i : ℕ) (text : List ℕ)
    → is_number text ≡ list_all is_ascii_digit text
    → list_all is_ascii_digit text ≡ list_all is_ascii_digit (drop i text)
    → i < length text
    → is_ascii_digit (get_or text i 0) ≡ false
    → number_within most text ≡ None
number_stopped most i text leads same there not =
    no_number most text (leads ∙ same ∙ rw (drop_more text i 0 there, not) refl)

neither : (b : Bool) (x : Option ℕ) → x ≡ None → cond b x None ≡ None
neither true x none = none
neither false x none = refl

-- one digit too many
pub number_passed : (most n i : ℕ) (text : List ℕ)
    → decimal_from n (drop i text) ≡ decimal_value text
    → most < n
    → number_within most text ≡ None
unfolding number_within
number_passed most n i text same over = neither (is_number text) (number_up_to most text) (number_over most n text (drop i text) same over)

-- all of it
pub number_read : (most n i : ℕ) (text : List ℕ)
    → is_number text ≡ list_all is_ascii_digit text
    → list_all is_ascii_digit text ≡ list_all is_ascii_digit (drop i text)
    → decimal_from n (drop i text) ≡ decimal_value text
    → length text ≤ i
    → n ≤ most
    → Some n ≡ number_within most text
unfolding number_within
number_read most n i text leads digits same past fits =
    let nothing : drop i text ≡ [] = nil_from_length (drop i text) (omega (arith, length-drop i text)) in
    let is : is_number text ≡ true = leads ∙ digits ∙ ap (λ ds. list_all is_ascii_digit ds) nothing in
    rw is (number_fits most n text i past same fits)

pub ruleset number_by_digit = (decimal_more, digits_more, number_stopped, number_passed, number_read)
