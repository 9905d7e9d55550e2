-- What is printed of choices spells them.
use Rattle.scheduler.proofs.Vocabulary.{◌≡◌, ◌<◌, ◌≤◌, ◌^◌, ℕ, Bool, true, false, IsTrue, All, not, eqb, List, [], ◌∷◌, ◌++◌, length, map}
use Rattle.scheduler.proofs.Vocabulary.{filter, arith, rules, refl, sym, ap, subst, ◌∙◌, append_assoc, is_ascii_digit, slice_split}
use Rattle.scheduler.proofs.Vocabulary.{list_all, and_parts, nat_tests, digits_decimal, digits_value-decimal, decimal_nonempty, All-nil}
use Rattle.scheduler.proofs.Vocabulary.{All-cons, All-append, slice_split_none, slice_split_at, slice_split-cons_yes, IsNumeralModel}
use Rattle.scheduler.proofs.Vocabulary.{numerals_by_fold, chosen, CoresExist, Choice, Step, Drain, most_choices, decimal_from}
use Rattle.scheduler.proofs.Vocabulary.{decimal_value, is_space, is_numeral, words_of_text, IsChoiceWord, step, drain, one, AreItems, none}
use Rattle.scheduler.proofs.Vocabulary.{more, SpellsChoices, printed_choice, printed_after, printed_choices}
use Rattle.std.proofs.Common.{codes, append-nil, length-append}
use Rattle.std.specs.Fmt as fmt

-- ---- numbers

own : IsNumeralModel (λ ds. list_all is_ascii_digit ds ≡ true) (decimal_from 0)
unfolding decimal_from
own = numerals_by_fold _ (search rules) decimal_from (search rules)

number-is : (n : ℕ) → n < 2 ^ 64 → decimal_value (fmt.decimal n) ≡ n
number-is n small = digits_value-decimal own n small

digits-are : (n : ℕ) → n < 2 ^ 64 → list_all is_ascii_digit (fmt.decimal n) ≡ true
digits-are n small = digits_decimal own n small

is-numeral : (n : ℕ) → n < 2 ^ 64 → is_numeral (fmt.decimal n) ≡ true
unfolding is_numeral
is-numeral n small =
    let digits = digits-are n small in
    let some = decimal_nonempty n small in
    rw digits (grind (arith, nat_tests))

-- ---- one choice

word-is : (c : Choice) → chosen c < 2 ^ 64 → IsChoiceWord (printed_choice c) c
word-is (Step core) small =
    subst (λ n. IsChoiceWord (fmt.decimal core.0 ++ codes "s") (Step (record { 0 = n }))) (number-is core.0 small)
    (step (fmt.decimal core.0) (is-numeral core.0 small))
word-is (Drain core) small =
    subst (λ n. IsChoiceWord (fmt.decimal core.0 ++ codes "d") (Drain (record { 0 = n }))) (number-is core.0 small)
    (drain (fmt.decimal core.0) (is-numeral core.0 small))

some-byte : (c : Choice) → 0 < length (printed_choice c)
some-byte (Step core) = omega (arith, length-append (fmt.decimal core.0) (codes "s"))
some-byte (Drain core) = omega (arith, length-append (fmt.decimal core.0) (codes "d"))

-- no byte is white space
abbrev IsSolid : List ℕ → Type 0
IsSolid word = All (λ (b : ℕ). is_space b ≡ false) word

digit-is-solid : (b : ℕ) → is_ascii_digit b ≡ true → is_space b ≡ false
unfolding is_space
digit-is-solid b h = grind (arith, nat_tests)

digits-are-solid : (ds : List ℕ) → list_all is_ascii_digit ds ≡ true → IsSolid ds
digits-are-solid [] h = All-nil (λ (b : ℕ). is_space b ≡ false)
digits-are-solid (d ∷ ds) h =
    let parts = and_parts _ _ h in
    All-cons (λ (b : ℕ). is_space b ≡ false) d ds (digit-is-solid d parts.0) (digits-are-solid ds parts.1)

letter-is-solid : (n letter : ℕ) → n < 2 ^ 64 → is_space letter ≡ false → IsSolid (fmt.decimal n ++ letter ∷ [])
letter-is-solid n letter small h =
    All-append (λ (b : ℕ). is_space b ≡ false) (fmt.decimal n) (letter ∷ []) (digits-are-solid (fmt.decimal n) (digits-are n small))
    (All-cons (λ (b : ℕ). is_space b ≡ false) letter [] h (All-nil (λ (b : ℕ). is_space b ≡ false)))

choice-is-solid : (c : Choice) → chosen c < 2 ^ 64 → IsSolid (printed_choice c)
unfolding is_space
choice-is-solid (Step core) small = letter-is-solid core.0 115 small refl
choice-is-solid (Drain core) small = letter-is-solid core.0 100 small refl

-- ---- the words of a text

abbrev is_some_word : List ℕ → Bool
is_some_word word = not (eqb (length word) 0)

kept : (word : List ℕ) (rest : List (List ℕ)) → 0 < length word → filter is_some_word (word ∷ rest) ≡ word ∷ filter is_some_word rest
kept [] rest some = absurd (omega arith)
kept (b ∷ bs) rest some = let not_none : eqb (length (b ∷ bs)) 0 ≡ false = grind (arith, nat_tests) in rw not_none refl

no-words : (white : List ℕ) → list_all is_space white ≡ true → words_of_text white ≡ []
no-words [] blank = refl
no-words (b ∷ bs) blank =
    let parts = and_parts _ _ blank in
    ap (λ (ws : List (List ℕ)). filter is_some_word ws) (slice_split-cons_yes is_space b bs parts.0) ∙ no-words bs parts.1

-- choices whose cores are there, in a test of fewer than 2^64
abbrev AreSmall : List Choice → Type 0
AreSmall cs = CoresExist (2 ^ 64) cs

words-after : (word : List ℕ) (cs : List Choice) (white : List ℕ) → IsSolid word → 0 < length word → AreSmall cs → list_all is_space white ≡ true
    → words_of_text (word ++ (printed_after cs ++ white)) ≡ word ∷ map printed_choice cs
unfolding is_space
words-after word [] [] solid some small blank =
    ap (λ (t : List ℕ). words_of_text t) (append-nil word)
    ∙ ap (λ (ws : List (List ℕ)). filter is_some_word ws) (slice_split_none is_space word solid)
    ∙ kept word [] some
words-after word [] (b ∷ bs) solid some small blank =
    let parts = and_parts _ _ blank in
    ap (λ (ws : List (List ℕ)). filter is_some_word ws) (slice_split_at is_space word b bs solid parts.0) ∙ kept word (slice_split is_space bs) some
    ∙ ap (λ (ws : List (List ℕ)). word ∷ ws) (no-words bs parts.1)
words-after word (c ∷ cs) white solid some small blank =
    let rest : List ℕ = (printed_choice c ++ printed_after cs) ++ white in
    ap (λ (ws : List (List ℕ)). filter is_some_word ws) (slice_split_at is_space word 32 rest solid refl) ∙ kept word (slice_split is_space rest) some
    ∙ ap (λ (ws : List (List ℕ)). word ∷ ws)
    (ap (λ (t : List ℕ). words_of_text t) (append_assoc (printed_choice c) (printed_after cs) white)
    ∙ words-after (printed_choice c) cs white (choice-is-solid c small.0) (some-byte c) small.1 blank)

words-are : (cs : List Choice) (white : List ℕ)
    → AreSmall cs
    → list_all is_space white ≡ true
    → words_of_text (printed_choices cs ++ white) ≡ map printed_choice cs
words-are [] white small blank = no-words white blank
words-are (c ∷ cs) white small blank =
    ap (λ (t : List ℕ). words_of_text t) (append_assoc (printed_choice c) (printed_after cs) white)
    ∙ words-after (printed_choice c) cs white (choice-is-solid c small.0) (some-byte c) small.1 blank

-- ---- and the choices

items-are : (cores : ℕ) (cs : List Choice) → AreSmall cs → CoresExist cores cs → AreItems cores (map printed_choice cs) cs
items-are cores [] small there = none
items-are cores (c ∷ cs) small there =
    more (printed_choice c ∷ []) (map printed_choice cs) (c ∷ []) cs
    (one (printed_choice c) c (word-is c small.0) there.0) (items-are cores cs small.1 there.1)

are-small : (cores : ℕ) (cs : List Choice) → cores < 2 ^ 64 → CoresExist cores cs → AreSmall cs
are-small cores [] few there = tt
are-small cores (c ∷ cs) few there = (let below = there.0 in omega (arith, below, few), are-small cores cs few there.1)

pub printed-spells : (cores : ℕ) (choices : List Choice) (white : List ℕ) → cores < 2 ^ 64 → CoresExist cores choices → length choices ≤ most_choices
    → IsTrue (list_all is_space white) → SpellsChoices cores (printed_choices choices ++ white) choices
printed-spells cores choices white small there few blank =
    let all = are-small cores choices small there in
    record {
      items = subst (λ words. AreItems cores words choices) (sym (words-are choices white all blank)) (items-are cores choices all there);
      few = few;
    }
