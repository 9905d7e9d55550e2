-- Words that are choices, against what is read of them.
use Rattle.scheduler.proofs.Vocabulary.{◌≡◌, ℕ, ◌+◌, ◌-◌, ◌<◌, ◌≤◌, Bool, true, false, cond, eqb, leb, List, [], ◌∷◌, ◌++◌, length, get_or}
use Rattle.scheduler.proofs.Vocabulary.{take, Option, Some, None, Ok, Err, refl, sym, ap, subst, ◌∙◌, ◌⊎◌, inl, inr, take_all, arith}
use Rattle.scheduler.proofs.Vocabulary.{bytes_eq, codes, le-leb, lt-leb, leb-true, and_parts, eqb-true, cases_lt, take_more, chosen, Choice}
use Rattle.scheduler.proofs.Vocabulary.{BadWord, NoSuchCore, TooMany, ChoiceKind, One, decimal_value, number_up_to, is_numeral}
use Rattle.scheduler.proofs.Vocabulary.{IsChoiceWord, step, drain, choice_kind_of, choice_by, one_at, one_of}
use Rattle.scheduler.specs.declared.item.ChoiceKind.TheVariants.{Step, Drain}
use Rattle.scheduler.proofs.Items.{one_is, one_none}

-- which way a test went
pub which-way : {A : Type 0} (b : Bool) (x y z : A) → cond b x y ≡ z → ((b ≡ true) × (x ≡ z)) ⊎ ((b ≡ false) × (y ≡ z))
which-way true x y z e = inl (refl, e)
which-way false x y z e = inr (refl, e)

pub either : (b : Bool) → (b ≡ true) ⊎ (b ≡ false)
either true = inl refl
either false = inr refl

pub number_in : (most : ℕ) (digits : List ℕ) → decimal_value digits ≤ most → number_up_to most digits ≡ Some (decimal_value digits)
unfolding number_up_to
number_in most digits le = let is_in : leb (decimal_value digits) most ≡ true = le-leb _ _ le in rw is_in refl

pub number_out : (most : ℕ) (digits : List ℕ) → most < decimal_value digits → number_up_to most digits ≡ None
unfolding number_up_to
number_out most digits lt = let is_out : leb (decimal_value digits) most ≡ false = lt-leb _ _ lt in rw is_out refl

-- a choice word is read by its core and the room
choice_read : (cores room number : ℕ) (word : List ℕ) (c : Choice) → IsChoiceWord word c
    → (action : ChoiceKind)
    × (digits : List ℕ)
    × (c ≡ choice_by action (decimal_value digits))
    × (one_of cores room number word ≡ one_at room number action (number_up_to (cores - 1) digits))
unfolding choice_kind_of
choice_read cores room number _ _ (step digits good) = (Step, digits, refl, one_is cores room number (digits ++ codes "s") digits 115 refl ∙ rw good refl)
choice_read cores room number _ _ (drain digits good) = (Drain, digits, refl, one_is cores room number (digits ++ codes "d") digits 100 refl ∙ rw good refl)

core_by : (action : ChoiceKind) (n : ℕ) → chosen (choice_by action n) ≡ n
core_by Step n = refl
core_by Drain n = refl

pub reads_absent : (cores room number : ℕ) (word : List ℕ) (c : Choice)
    → 0 < cores
    → IsChoiceWord word c
    → cores ≤ chosen c
    → one_of cores room number word ≡ Err (NoSuchCore number)
reads_absent cores room number word c some is over =
    let read = choice_read cores room number word c is in
    let core : chosen c ≡ decimal_value read.1 = ap chosen read.2 ∙ core_by read.0 (decimal_value read.1) in
    let none : number_up_to (cores - 1) read.1 ≡ None = number_out _ _ (omega (arith, core)) in
    read.3 ∙ rw none refl

pub reads_full : (cores room number : ℕ) (word : List ℕ) (c : Choice)
    → IsChoiceWord word c
    → chosen c < cores
    → room ≡ 0
    → one_of cores room number word ≡ Err (TooMany number)
reads_full cores room number word c is below full =
    let read = choice_read cores room number word c is in
    let core : chosen c ≡ decimal_value read.1 = ap chosen read.2 ∙ core_by read.0 (decimal_value read.1) in
    let there : number_up_to (cores - 1) read.1 ≡ Some (decimal_value read.1) = number_in _ _ (omega (arith, core)) in
    read.3 ∙ rw (there, full) refl

pub reads_there : (cores room number : ℕ) (word : List ℕ) (c : Choice)
    → IsChoiceWord word c
    → chosen c < cores
    → 0 < room
    → one_of cores room number word ≡ Ok (One c)
reads_there cores room number word c is below some =
    let read = choice_read cores room number word c is in
    let core : chosen c ≡ decimal_value read.1 = ap chosen read.2 ∙ core_by read.0 (decimal_value read.1) in
    let there : number_up_to (cores - 1) read.1 ≡ Some (decimal_value read.1) = number_in _ _ (omega (arith, core)) in
    let space : eqb room 0 ≡ false = elim (either (eqb room 0)) [ inl same ↦ absurd (omega (arith, eqb-true room 0 same)) | inr other ↦ other ] in
    read.3 ∙ rw (there, space) (ap (λ (x : Choice). Ok (One x)) (sym read.2))

-- no word that is read as of no form is a choice word
pub not_a_choice : (cores room number : ℕ) (word : List ℕ)
    → 0 < cores
    → one_of cores room number word ≡ Err (BadWord number)
    → (c : Choice) → IsChoiceWord word c
    → ⊥
not_a_choice cores room number word some bad c is =
    elim (cases_lt (chosen c) cores) [
      | inl below ↦ elim (cases_lt 0 room) [
        | inl space ↦ let other : one_of cores room number word ≡ Ok (One c) = reads_there cores room number word c is below space in cc
        | inr full ↦ let other : one_of cores room number word ≡ Err (TooMany number) = reads_full cores room number word c is below (omega arith) in cc
      ]
      | inr over ↦ let other : one_of cores room number word ≡ Err (NoSuchCore number) = reads_absent cores room number word c some is over in cc
    ]

letter_step : (letter : ℕ) → choice_kind_of letter ≡ Some Step → letter ≡ 115
unfolding choice_kind_of
letter_step letter e =
    elim (which-way (eqb letter 115) (Some Step) (cond (eqb letter 100) (Some Drain) None) (Some Step) e) [
      | inl hit ↦ eqb-true _ _ hit.0
      | inr miss ↦ elim (which-way (eqb letter 100) (Some Drain) None (Some Step) miss.1) [ inl hit ↦ absurd cc | inr bad ↦ absurd cc ]
    ]

letter_drain : (letter : ℕ) → choice_kind_of letter ≡ Some Drain → letter ≡ 100
unfolding choice_kind_of
letter_drain letter e =
    elim (which-way (eqb letter 115) (Some Step) (cond (eqb letter 100) (Some Drain) None) (Some Drain) e) [
      | inl hit ↦ absurd cc
      | inr miss ↦ elim (which-way (eqb letter 100) (Some Drain) None (Some Drain) miss.1) [ inl hit ↦ eqb-true _ _ hit.0 | inr bad ↦ absurd cc ]
    ]

-- digits and the letter of an action are a choice word
word_is : (word digits : List ℕ) (letter : ℕ) (action : ChoiceKind)
    → word ≡ digits ++ letter ∷ []
    → choice_kind_of letter ≡ Some action
    → is_numeral digits ≡ true
    → IsChoiceWord word (choice_by action (decimal_value digits))
word_is word digits letter Step is has good =
    let same : digits ++ 115 ∷ [] ≡ word = sym (is ∙ ap (λ (b : ℕ). digits ++ b ∷ []) (letter_step letter has)) in
    subst (λ (w : List ℕ). IsChoiceWord w (choice_by Step (decimal_value digits))) same (step digits good)
word_is word digits letter Drain is has good =
    let same : digits ++ 100 ∷ [] ≡ word = sym (is ∙ ap (λ (b : ℕ). digits ++ b ∷ []) (letter_drain letter has)) in
    subst (λ (w : List ℕ). IsChoiceWord w (choice_by Drain (decimal_value digits))) same (drain digits good)

-- a word is a choice word, or is read as of no form
word_by : (cores room number : ℕ) (word digits : List ℕ) (letter : ℕ) (action : Option ChoiceKind)
    → word ≡ digits ++ letter ∷ []
    → choice_kind_of letter ≡ action
    → ((c : Choice) × IsChoiceWord word c) ⊎ (one_of cores room number word ≡ Err (BadWord number))
word_by cores room number word digits letter None is has = inr (one_is cores room number word digits letter is ∙ rw has refl)
word_by cores room number word digits letter (Some action) is has =
    elim (either (is_numeral digits)) [
      | inl good ↦ inl (choice_by action (decimal_value digits), word_is word digits letter action is has good)
      | inr bad ↦ inr (one_is cores room number word digits letter is ∙ rw (has, bad) refl)
    ]

pub word_cases : (cores room number : ℕ) (word : List ℕ) → ((c : Choice) × IsChoiceWord word c) ⊎ (one_of cores room number word ≡ Err (BadWord number))
word_cases cores room number word =
    elim (cases_lt 0 (length word)) [
      | inl some ↦
          let last : length word - 1 < length word = omega arith in
          let whole : word ≡ take (length word - 1) word ++ get_or word (length word - 1) 0 ∷ [] =
          sym (take_all (length word - 1 + 1) word (omega arith)) ∙ take_more word (length word - 1) 0 last in
          word_by cores room number word (take (length word - 1) word) (get_or word (length word - 1) 0)
          (choice_kind_of (get_or word (length word - 1) 0)) whole refl
      | inr none ↦ inr (one_none cores room number word (omega arith))
    ]

-- no choice word is the word `seed`: it begins with a digit
begins : (digits : List ℕ) (letter : ℕ) → is_numeral digits ≡ true → bytes_eq (digits ++ letter ∷ []) (codes "seed") ≡ false
unfolding is_numeral
begins [] letter good = absurd cc
begins (b ∷ bs) letter good =
    let all = and_parts _ _ (and_parts _ _ good).1 in
    let digit : b ≤ 57 = leb-true _ _ (and_parts _ _ all.0).1 in
    let other : eqb b 115 ≡ false = elim (either (eqb b 115)) [ inl same ↦ absurd (omega (arith, eqb-true b 115 same)) | inr apart ↦ apart ] in
    rw other refl

pub choice_is_no_seed : (word : List ℕ) (c : Choice) → IsChoiceWord word c → bytes_eq word (codes "seed") ≡ false
choice_is_no_seed _ _ (step digits good) = begins digits 115 good
choice_is_no_seed _ _ (drain digits good) = begins digits 100 good
