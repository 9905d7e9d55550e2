-- The number that digits say, where a word has room for it.
use Rattle.std.proofs.Common.{◌≡◌, ◌^◌, ltb, leb, List, ℕ, refl, arith}
use Rattle.std.proofs.lemmas.Bool.Decides.{nat_tests}
use Rattle.tso_terms.specs.Decimals.{decimal_value}
use Rattle.tso_terms.specs.inner.Decimals.{number_up_to}
use Rattle.litmus_tokens.specs.Terms.{word_of}

-- at most the greatest word is below the number of words
same_test : (n : ℕ) → ltb n (2 ^ 32) ≡ leb n 4294967295
same_test n = grind (arith, nat_tests)

pub word_up_to : (digits : List ℕ) → number_up_to 4294967295 digits ≡ word_of (decimal_value digits)
unfolding number_up_to
word_up_to digits = rw (same_test (decimal_value digits)) refl
