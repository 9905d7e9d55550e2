-- The number that digits say, digit by digit.
use Rattle.std.proofs.Common.{◌≡◌, ℕ, ◌+◌, ◌-◌, ◌*◌, ◌/◌, ◌<◌, ◌≤◌, true, false, leb, List, [], ◌∷◌, length, get_or, drop, Some, None, refl}
use Rattle.std.proofs.Common.{sym, ap, ◌∙◌, add-one, drop-cons, arith}
use Rattle.std.proofs.lemmas.Bool.{le-leb, lt-leb}
use Rattle.std.proofs.lemmas.List.{nil_from_length, length-drop}
use Rattle.tso_terms.specs.Decimals.{decimal_from, decimal_value}
use Rattle.tso_terms.specs.inner.Decimals.{number_up_to}

pub decimal_more : (ds : List ℕ) (i n : ℕ) → i < length ds → decimal_from n (drop i ds) ≡ decimal_from (n * 10 + (get_or ds i 0 - 48)) (drop (i + 1) ds)
unfolding decimal_from
decimal_more ds i n lt = rw (add-one, drop-cons ds i 0) refl

pub decimal_from-le : (n : ℕ) (ds : List ℕ) → n ≤ decimal_from n ds
unfolding decimal_from
decimal_from-le n [] = omega arith
decimal_from-le n (d ∷ ds) = let more = decimal_from-le (n * 10 + (d - 48)) ds in omega (arith, more)

pub number_over : (most n : ℕ) (digits rest : List ℕ) → decimal_from n rest ≡ decimal_value digits → most < n → number_up_to most digits ≡ None
unfolding number_up_to
number_over most n digits rest same over =
    let large : most < decimal_value digits = omega (arith, decimal_from-le n rest, same) in
    let no_number : leb (decimal_value digits) most ≡ false = lt-leb _ _ large in
    rw no_number refl

pub number_fits : (most n : ℕ) (digits : List ℕ) (i : ℕ)
    → length digits ≤ i
    → decimal_from n (drop i digits) ≡ decimal_value digits
    → n ≤ most
    → Some n ≡ number_up_to most digits
unfolding number_up_to decimal_from
number_fits most n digits i past same fits =
    let nothing : drop i digits ≡ [] = nil_from_length (drop i digits) (omega (arith, length-drop i digits)) in
    let is_n : n ≡ decimal_value digits = sym (ap (decimal_from n) nothing) ∙ same in
    let is_there : leb (decimal_value digits) most ≡ true = le-leb _ _ (omega (arith, is_n)) in
    rw is_there (ap (λ (k : ℕ). Some k) is_n)

-- another digit, where what was read is over a tenth
pub number_over_tenth : (most n i : ℕ) (digits : List ℕ)
    → decimal_from n (drop i digits) ≡ decimal_value digits
    → i < length digits
    → most / 10 < n
    → number_up_to most digits ≡ None
number_over_tenth most n i digits same there over =
    number_over most (n * 10 + (get_or digits i 0 - 48)) digits (drop (i + 1) digits) (sym (decimal_more digits i n there) ∙ same) (omega arith)

pub ruleset digit_by_digit = (decimal_more, number_over, number_over_tenth, number_fits)
