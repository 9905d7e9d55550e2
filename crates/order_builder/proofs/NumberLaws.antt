-- A number without leading zeros is what is printed of what its digits say.
use Rattle.order_builder.proofs.Vocabulary.{is_ascii_digit, ◌≡◌, ℕ, zero, suc, ◌^◌, ◌<◌, ◌≤◌, true, leb, inl, inr, List, length, get_or}
use Rattle.order_builder.proofs.Vocabulary.{Some, None, refl, sym, ap, ◌∙◌, arith, rules, decimal, list_all, le-leb, leb-true, nat_tests}
use Rattle.order_builder.proofs.Vocabulary.{digits_decimal, digits_value-decimal, decimal_nonempty, first_decimal, decimal_digit}
use Rattle.order_builder.proofs.Vocabulary.{decimal-digits_value, IsNumeralModel, numerals_by_fold, decimal_from, decimal_value}
use Rattle.order_builder.proofs.Vocabulary.{number_up_to, is_number, number_within}
use Rattle.order_builder.proofs.Choosing.{chosen}

own : IsNumeralModel (λ ds. list_all is_ascii_digit ds ≡ true) (decimal_from 0)
unfolding decimal_from
own = numerals_by_fold _ (search rules) decimal_from (search rules)

-- the parts of a number
pub is_number-parts : (text : List ℕ)
    → is_number text ≡ true
    → (0 < length text) × (list_all is_ascii_digit text ≡ true) × (get_or text 0 0 ≡ 48 → length text ≡ 1)
is_number-parts text h = grind (arith, nat_tests)

is_number-from : (text : List ℕ) → 0 < length text → list_all is_ascii_digit text ≡ true → (get_or text 0 0 ≡ 48 → length text ≡ 1) → is_number text ≡ true
is_number-from text some digits lead = grind (arith, nat_tests)

lead_of : (n : ℕ) → n < 2 ^ 64 → get_or (decimal n) 0 0 ≡ 48 → length (decimal n) ≡ 1
lead_of zero small lead = ap (λ (ds : List ℕ). length ds) (decimal_digit 0 (omega arith))
lead_of (suc n) small lead = absurd (let over = first_decimal (suc n) (omega arith) small in omega (arith, over, lead))

pub is_digits-decimal : (n : ℕ) → n < 2 ^ 64 → list_all is_ascii_digit (decimal n) ≡ true
is_digits-decimal n small = digits_decimal own n small

pub is_number-decimal : (n : ℕ) → n < 2 ^ 64 → is_number (decimal n) ≡ true
is_number-decimal n small = is_number-from (decimal n) (decimal_nonempty n small) (digits_decimal own n small) (lead_of n small)

pub value-decimal : (n : ℕ) → n < 2 ^ 64 → decimal_value (decimal n) ≡ n
value-decimal n small = digits_value-decimal own n small

pub decimal-value : (text : List ℕ) → is_number text ≡ true → decimal_value text < 2 ^ 64 → decimal (decimal_value text) ≡ text
decimal-value text is small =
    let parts = is_number-parts text is in
    decimal-digits_value own text parts.1 parts.0 parts.2 small

pub number_again : (most n : ℕ) → n ≤ most → n < 2 ^ 64 → number_within most (decimal n) ≡ Some n
unfolding number_within number_up_to
number_again most n fits small =
    let fits' : leb n most ≡ true = le-leb _ _ fits in
    rw (is_number-decimal n small, value-decimal n small, fits') refl

pub number_found : (most : ℕ) (text : List ℕ) (n : ℕ) → most < 2 ^ 64 → number_within most text ≡ Some n → (text ≡ decimal n) × (n ≤ most)
unfolding number_within number_up_to
number_found most text n small e =
    elim (chosen (is_number text) (number_up_to most text) None (Some n) e) [
      | inl is ↦
          elim (chosen (leb (decimal_value text) most) (Some (decimal_value text)) None (Some n) is.1) [
            | inl hit ↦
                let same : decimal_value text ≡ n = cc in
                let fits : decimal_value text ≤ most = leb-true _ _ hit.0 in
                (sym (decimal-value text is.0 (omega (arith, fits))) ∙ ap decimal same, omega (arith, fits, same))
            | inr miss ↦ absurd cc
          ]
      | inr miss ↦ absurd cc
    ]
