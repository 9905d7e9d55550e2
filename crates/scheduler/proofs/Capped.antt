-- A number that is read digit by digit, and not past a greatest one.
use Rattle.scheduler.proofs.Vocabulary.{◌≡◌, ℕ, ◌+◌, ◌-◌, ◌*◌, ◌<◌, true, false, List, [], ◌∷◌, ◌++◌, length, take, get_or, min, refl, ap}
use Rattle.scheduler.proofs.Vocabulary.{◌∙◌, arith, is_ascii_digit, list_all, nat_lt, take_more, list_all_at, lt-ltb, decimal_from}
use Rattle.scheduler.proofs.Vocabulary.{decimal_value, is_numeral}

from_append : (n digit : ℕ) (digits : List ℕ) → decimal_from n (digits ++ digit ∷ []) ≡ decimal_from n digits * 10 + (digit - 48)
unfolding decimal_from
from_append n digit [] = refl
from_append n digit (d ∷ ds) = from_append (n * 10 + (d - 48)) digit ds

pub nothing_capped : (most : ℕ) → 0 ≡ min (decimal_value []) most
unfolding decimal_from
nothing_capped most = omega arith

-- one more digit
pub one_capped : (digits : List ℕ) (i most value : ℕ) → i < length digits → value ≡ min (decimal_value (take i digits)) most
    → min (value * 10 + (get_or digits i 0 - 48)) most ≡ min (decimal_value (take (i + 1) digits)) most
one_capped digits i most value there is =
    let more : decimal_value (take (i + 1) digits) ≡ decimal_value (take i digits) * 10 + (get_or digits i 0 - 48) =
    ap decimal_value (take_more digits i 0 there) ∙ from_append 0 (get_or digits i 0) (take i digits) in
    omega arith

pub no_numeral : (word : List ℕ) → length word ≡ 0 → is_numeral word ≡ false
unfolding is_numeral
no_numeral [] none = refl
no_numeral (b ∷ bs) none = absurd (omega arith)

pub bad_digit : (word : List ℕ) (i : ℕ) → i < length word → is_ascii_digit (get_or word i 0) ≡ false → is_numeral word ≡ false
unfolding is_numeral
bad_digit word i there bad =
    let some : nat_lt 0 (length word) ≡ true = lt-ltb 0 (length word) (omega arith) in
    rw (some, list_all_at is_ascii_digit word i 0 there bad) refl

pub good_digits : (word : List ℕ) → 0 < length word → list_all is_ascii_digit word ≡ true → is_numeral word ≡ true
unfolding is_numeral
good_digits word some good = let there : nat_lt 0 (length word) ≡ true = lt-ltb 0 (length word) some in rw (there, good) refl
