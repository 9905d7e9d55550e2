-- How one item is read, case by case.
use Rattle.scheduler.proofs.Vocabulary.{◌≡◌, ◌≢◌, ℕ, ◌+◌, ◌-◌, ◌<◌, true, false, leb, min, List, [], ◌∷◌, ◌++◌, length, get_or, take, drop}
use Rattle.scheduler.proofs.Vocabulary.{Some, None, Result, Ok, Err, refl, ap, ◌∙◌, arith, bytes_eq, codes, le-leb, lt-leb, ne_eqb, take_at}
use Rattle.scheduler.proofs.Vocabulary.{get_or_at, length-append, BadWord, NoSuchCore, TooMany, ChoiceKind, ChoiceFault, ChoiceItem, One}
use Rattle.scheduler.proofs.Vocabulary.{Seeded, decimal_value, number_up_to, is_numeral, choice_kind_of, choice_by, one_from, one_of}
use Rattle.scheduler.proofs.Vocabulary.{seed_of, seeded_from, seeded_of, item_of}

pub one_is : (cores room number : ℕ) (word digits : List ℕ) (letter : ℕ)
    → word ≡ digits ++ letter ∷ []
    → one_of cores room number word ≡ one_from cores room number digits (choice_kind_of letter)
unfolding one_of
one_is cores room number word digits letter is =
    let front : take (length word - 1) word ≡ digits = rw is (take_at digits (letter ∷ []) _ (omega (arith, length-append digits (letter ∷ [])))) in
    let back : get_or word (length word - 1) 0 ≡ letter = rw is (get_or_at digits letter [] 0 _ (omega (arith, length-append digits (letter ∷ [])))) in
    rw (front, back) refl

pub one_none : (cores room number : ℕ) (word : List ℕ) → length word ≡ 0 → one_of cores room number word ≡ Err (BadWord number)
unfolding one_of choice_kind_of
one_none cores room number [] none = refl
one_none cores room number (b ∷ bs) none = absurd (omega arith)

pub one_bad_letter : (cores room number : ℕ) (word digits : List ℕ) (letter : ℕ)
    → word ≡ digits ++ letter ∷ []
    → None ≡ choice_kind_of letter
    → one_of cores room number word ≡ Err (BadWord number)
one_bad_letter cores room number word digits letter is none = one_is cores room number word digits letter is ∙ rw (← none) refl

pub one_bad_digits : (cores room number : ℕ) (word digits : List ℕ) (letter : ℕ) (action : ChoiceKind)
    → word ≡ digits ++ letter ∷ []
    → Some action ≡ choice_kind_of letter
    → is_numeral digits ≡ false
    → one_of cores room number word ≡ Err (BadWord number)
one_bad_digits cores room number word digits letter action is has bad = one_is cores room number word digits letter is ∙ rw (← has, bad) refl

-- a core that is there, and one that isn't: a number that isn't read past the number of cores tells them apart
core_out : (cores core : ℕ) (digits : List ℕ) → 0 < cores → core ≡ min (decimal_value digits) cores → core ≡ cores → number_up_to (cores - 1) digits ≡ None
unfolding number_up_to
core_out cores core digits some is past = let over : leb (decimal_value digits) (cores - 1) ≡ false = lt-leb _ _ (omega arith) in rw over refl

core_in : (cores core : ℕ) (digits : List ℕ) → core ≡ min (decimal_value digits) cores → core ≢ cores → number_up_to (cores - 1) digits ≡ Some core
unfolding number_up_to
core_in cores core digits is other =
    let there : leb (decimal_value digits) (cores - 1) ≡ true = le-leb _ _ (omega arith) in
    let same : decimal_value digits ≡ core = omega arith in
    rw there (ap (λ (n : ℕ). Some n) same)

pub one_no_core : (cores room number : ℕ) (word digits : List ℕ) (letter core : ℕ) (action : ChoiceKind)
    → 0 < cores
    → word ≡ digits ++ letter ∷ []
    → Some action ≡ choice_kind_of letter
    → is_numeral digits ≡ true
    → core ≡ min (decimal_value digits) cores → core ≡ cores → one_of cores room number word ≡ Err (NoSuchCore number)
one_no_core cores room number word digits letter core action some is has good capped past =
    one_is cores room number word digits letter is ∙ rw (← has, good, core_out cores core digits some capped past) refl

pub one_full : (cores room number : ℕ) (word digits : List ℕ) (letter core : ℕ) (action : ChoiceKind)
    → word ≡ digits ++ letter ∷ []
    → Some action ≡ choice_kind_of letter
    → is_numeral digits ≡ true
    → core ≡ min (decimal_value digits) cores → core ≢ cores → room ≡ 0 → one_of cores room number word ≡ Err (TooMany number)
one_full cores room number word digits letter core action is has good capped there none =
    one_is cores room number word digits letter is ∙ rw (← has, good, core_in cores core digits capped there, none) refl

pub one_there : (cores room number : ℕ) (word digits : List ℕ) (letter core : ℕ) (action : ChoiceKind)
    → word ≡ digits ++ letter ∷ []
    → Some action ≡ choice_kind_of letter
    → is_numeral digits ≡ true
    → core ≡ min (decimal_value digits) cores → core ≢ cores → room ≢ 0 → one_of cores room number word ≡ Ok (One (choice_by action core))
one_there cores room number word digits letter core action is has good capped there some =
    one_is cores room number word digits letter is ∙ rw (← has, good, core_in cores core digits capped there, ne_eqb room 0 some) refl

-- ---- the choices of a seed

pub seeded_none : (room number : ℕ) (ws : List (List ℕ)) → ws ≡ [] → seeded_of room number ws ≡ Err (BadWord number)
unfolding seeded_of
seeded_none room number ws none = rw none refl

pub seeded_short : (room number : ℕ) (ws us : List (List ℕ)) (seed : List ℕ) → ws ≡ seed ∷ us → us ≡ [] → seeded_of room number ws ≡ Err (BadWord number)
unfolding seeded_of
seeded_short room number ws us seed first none = rw (first, none) refl

seeded_is : (room number : ℕ) (ws us vs : List (List ℕ)) (seed count : List ℕ)
    → ws ≡ seed ∷ us
    → us ≡ count ∷ vs
    → seeded_of room number ws ≡ seeded_from room number (seed_of seed) count
unfolding seeded_of
seeded_is room number ws us vs seed count first second = rw (first, second) refl

pub seeded_bad_seed : (room number : ℕ) (ws us vs : List (List ℕ)) (seed count : List ℕ) → ws ≡ seed ∷ us → us ≡ count ∷ vs → None ≡ seed_of seed
    → seeded_of room number ws ≡ Err (BadWord (number + 1))
seeded_bad_seed room number ws us vs seed count first second none = seeded_is room number ws us vs seed count first second ∙ rw (← none) refl

pub seeded_bad_count : (room number : ℕ) (ws us vs : List (List ℕ)) (seed count : List ℕ) (n : ℕ) → ws ≡ seed ∷ us → us ≡ count ∷ vs → Some n ≡ seed_of seed
    → is_numeral count ≡ false → seeded_of room number ws ≡ Err (BadWord (number + 2))
seeded_bad_count room number ws us vs seed count n first second some bad = seeded_is room number ws us vs seed count first second ∙ rw (← some, bad) refl

pub seeded_too_many : (room number : ℕ) (ws us vs : List (List ℕ)) (seed count : List ℕ) (n : ℕ) → ws ≡ seed ∷ us → us ≡ count ∷ vs → Some n ≡ seed_of seed
    → is_numeral count ≡ true → None ≡ number_up_to room count → seeded_of room number ws ≡ Err (TooMany number)
seeded_too_many room number ws us vs seed count n first second some good none =
    seeded_is room number ws us vs seed count first second ∙ rw (← some, good, ← none) refl

pub seeded_there : (room number : ℕ) (ws us vs : List (List ℕ)) (seed count : List ℕ) (n m : ℕ) → ws ≡ seed ∷ us → us ≡ count ∷ vs → Some n ≡ seed_of seed
    → is_numeral count ≡ true → Some m ≡ number_up_to room count → seeded_of room number ws ≡ Ok (Seeded n m)
seeded_there room number ws us vs seed count n m first second some good is =
    seeded_is room number ws us vs seed count first second ∙ rw (← some, good, ← is) refl

pub after_two : (ws us vs : List (List ℕ)) (seed count : List ℕ) → ws ≡ seed ∷ us → us ≡ count ∷ vs → vs ≡ drop 2 ws
after_two ws us vs seed count first second = rw (first, second) refl

-- ---- either

pub item_one : (cores room number : ℕ) (word : List ℕ) (rest : List (List ℕ)) (r : Result ChoiceItem ChoiceFault)
    → bytes_eq word (codes "seed") ≡ false
    → one_of cores room number word ≡ r
    → item_of cores room number word rest ≡ r
unfolding item_of
item_one cores room number word rest r other is = rw other is

pub item_seeded : (cores room number : ℕ) (word : List ℕ) (rest : List (List ℕ)) (r : Result ChoiceItem ChoiceFault)
    → bytes_eq word (codes "seed") ≡ true
    → seeded_of room number rest ≡ r
    → item_of cores room number word rest ≡ r
unfolding item_of
item_seeded cores room number word rest r same is = rw same is
