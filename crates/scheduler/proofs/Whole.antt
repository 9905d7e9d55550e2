-- A text spells at most one list of choices, or gets at most one refusal: both are what one reading of its words gives.
use Rattle.scheduler.proofs.Vocabulary.{◌≡◌, ℕ, zero, suc, ◌+◌, ◌-◌, ◌<◌, ◌≤◌, Bool, true, false, List, [], ◌∷◌, ◌++◌, length, take, drop}
use Rattle.scheduler.proofs.Vocabulary.{Result, Ok, Err, refl, sym, ap, subst, ◌∙◌, ◌⊎◌, inl, inr, append_assoc, arith, bytes_eq, codes}
use Rattle.scheduler.proofs.Vocabulary.{MatchResult, IfOk, IfErr, Vec, append-nil, length-append, length-drop, take-append-drop}
use Rattle.scheduler.proofs.Vocabulary.{bytes_eq-Decides, Choice, ChoiceFault, BadWord, NoMemory, ChoiceItem, One, Seeded, decimal_value}
use Rattle.scheduler.proofs.Vocabulary.{words_of_text, most_choices, IsChoiceWord, IsItem, one, seeded, AreItems, none, more, WordsSpell}
use Rattle.scheduler.proofs.Vocabulary.{IsItemAtFault, bad_form, cut_seed, bad_seed, bad_count, no_core, too_many, AreRefused}
use Rattle.scheduler.proofs.Vocabulary.{IsDecidedAsChoices, made_of, words_in, one_of, seeded_of, item_of}
use Rattle.std.specs.Prelude.{◌≢◌}
use Rattle.scheduler.proofs.ChoiceWords.{number_in, number_out, reads_absent, reads_full, reads_there, word_cases, choice_is_no_seed}
use Rattle.scheduler.proofs.Found.{IsRead, item_read, length_seeded, seed_in, seed_out}
use Rattle.scheduler.proofs.Loop.{one_more}

-- choices after those of an item
unfoldable pub with_front : List Choice → Result (List Choice) ChoiceFault → Result (List Choice) ChoiceFault
with_front front (Ok choices) = Ok (front ++ choices)
with_front front (Err fault) = Err fault

-- what an item leaves to be read
abbrev then_rest : ℕ → (ℕ → ℕ → Result (List Choice) ChoiceFault) → Result ChoiceItem ChoiceFault → Result (List Choice) ChoiceFault
then_rest cores rest (Ok item) = with_front (made_of cores item) (rest (words_in item - 1) (length (made_of cores item)))
then_rest cores rest (Err fault) = Err fault

-- the reading of words, where so many of them still belong to the last item, so many choices came before, and the
-- first has this number
unfoldable pub whole : ℕ → ℕ → ℕ → ℕ → List (List ℕ) → Result (List Choice) ChoiceFault
whole cores skip before number [] = Ok []
whole cores zero before number (word ∷ rest) =
    then_rest cores (λ skip made. whole cores skip (before + made) (number + 1) rest) (item_of cores (most_choices - before) number word rest)
whole cores (suc skip) before number (word ∷ rest) = whole cores skip before (number + 1) rest

front_front : (front others : List Choice) (r : Result (List Choice) ChoiceFault) → with_front front (with_front others r) ≡ with_front (front ++ others) r
unfolding with_front
front_front front others (Ok choices) = ap (λ (l : List Choice). Ok l) (sym (append_assoc front others choices))
front_front front others (Err fault) = refl

front_none : (r : Result (List Choice) ChoiceFault) → with_front [] r ≡ r
unfolding with_front
front_none (Ok choices) = refl
front_none (Err fault) = refl

choice_item : (cores room number : ℕ) (word : List ℕ) (rest : List (List ℕ)) (c : Choice)
    → IsChoiceWord word c
    → item_of cores room number word rest ≡ one_of cores room number word
unfolding item_of
choice_item cores room number word rest c is = rw (choice_is_no_seed word c is) refl

seed_item : (cores room number : ℕ) (rest : List (List ℕ)) → item_of cores room number (codes "seed") rest ≡ seeded_of room number rest
unfolding item_of
seed_item cores room number rest = refl

-- an item within the limit is read
item_whole : (cores before number : ℕ) (words : List (List ℕ)) (choices : List Choice)
    → IsItem cores words choices
    → before + length choices ≤ most_choices
    → (back : List (List ℕ))
    → whole cores 0 before number (words ++ back) ≡ with_front choices (whole cores 0 (before + length choices) (number + length words) back)
unfolding whole seeded_of item_of with_front
item_whole cores before number _ _ (one word choice is below) fits back =
    rw (
      choice_item cores (most_choices - before) number word back choice is,
      reads_there cores (most_choices - before) number word choice is below (omega arith),
    )
    refl
item_whole cores before number _ _ (seeded seed count good small well) fits back =
    let long = length_seeded cores (decimal_value seed) (decimal_value count) in
    let numbers : number + 1 + 1 + 1 ≡ number + 3 = omega arith in
    rw (seed_in seed good small, well, number_in (most_choices - before) count (omega (arith, long)), numbers) refl

-- items within the limit are read one after the other
pub items_whole : (cores : ℕ) (front : List (List ℕ)) (choices : List Choice)
    → AreItems cores front choices
    → (before number : ℕ) → before + length choices ≤ most_choices
    → (back : List (List ℕ))
    → whole cores 0 before number (front ++ back) ≡ with_front choices (whole cores 0 (before + length choices) (number + length front) back)
items_whole cores _ _ none before number fits back =
    let same_choices : before + 0 ≡ before = omega arith in
    let same_number : number + 0 ≡ number = omega arith in
    rw (same_choices, same_number) (sym (front_none _))
items_whole cores _ _ (more words rest choices others item items) before number fits back =
    let sum = length-append choices others in
    let first = item_whole cores before number words choices item (omega (arith, sum)) (rest ++ back) in
    let then = items_whole cores rest others items (before + length choices) (number + length words) (omega (arith, sum)) back in
    let choices_sum : before + length choices + length others ≡ before + length (choices ++ others) = omega (arith, sum) in
    let words_sum : number + length words + length rest ≡ number + length (words ++ rest) = omega (arith, length-append words rest) in
    ap (whole cores 0 before number) (append_assoc words rest back) ∙ first ∙ ap (with_front choices) then ∙ front_front choices others _
    ∙ rw (choices_sum, words_sum) refl

-- a fault is read
apart : (b : Bool) → ¬ (b ≡ true) → b ≡ false
apart true not_so = absurd (not_so refl)
apart false not_so = refl

bad_item : (cores room number : ℕ) (word : List ℕ) (rest : List (List ℕ))
    → ((choice : Choice) → ¬ (IsChoiceWord word choice))
    → word ≢ codes "seed"
    → item_of cores room number word rest ≡ Err (BadWord number)
unfolding item_of
bad_item cores room number word rest no_form other =
    let no_seed : bytes_eq word (codes "seed") ≡ false = apart _ (λ same. other ((bytes_eq-Decides word (codes "seed")).0 same)) in
    elim (word_cases cores room number word) [ inl choice ↦ absurd (no_form choice.0 choice.1) | inr bad ↦ rw no_seed bad ]

cut_item : (room number : ℕ) (rest : List (List ℕ)) → length rest < 2 → seeded_of room number rest ≡ Err (BadWord number)
unfolding seeded_of
cut_item room number (seed ∷ count ∷ rest) short = absurd (omega arith)
cut_item room number _ short = refl

pub fault_whole : (cores before number : ℕ) (back : List (List ℕ)) (fault : ChoiceFault)
    → 0 < cores
    → before ≤ most_choices
    → IsItemAtFault cores before number back fault
    → whole cores 0 before number back ≡ Err fault
unfolding whole seeded_of
fault_whole cores before number _ _ some room (bad_form word rest no_form other) =
    rw (bad_item cores (most_choices - before) number word rest no_form other) refl
fault_whole cores before number _ _ some room (cut_seed rest short) =
    rw (seed_item cores (most_choices - before) number rest, cut_item (most_choices - before) number rest short) refl
fault_whole cores before number _ _ some room (bad_seed seed count rest bad) =
    rw (seed_item cores (most_choices - before) number (seed ∷ count ∷ rest), seed_out seed bad) refl
fault_whole cores before number _ _ some room (bad_count seed count rest good small bad) =
    rw (seed_item cores (most_choices - before) number (seed ∷ count ∷ rest), seed_in seed good small, apart _ bad) refl
fault_whole cores before number _ _ some room (no_core word choice rest is over) =
    rw (choice_item cores (most_choices - before) number word rest choice is, reads_absent cores (most_choices - before) number word choice some is over) refl
fault_whole cores before number _ _ some room (too_many _ _ rest (one word choice is below) over) =
    rw (
      choice_item cores (most_choices - before) number word rest choice is,
      reads_full cores (most_choices - before) number word choice is below (omega arith),
    )
    refl
fault_whole cores before number _ _ some room (too_many _ _ rest (seeded seed count good small well) over) =
    let long = length_seeded cores (decimal_value seed) (decimal_value count) in
    rw (
      seed_item cores (most_choices - before) number (seed ∷ count ∷ rest),
      seed_in seed good small,
      well,
      number_out (most_choices - before) count (omega (arith, long)),
    )
    refl

spells_whole : (cores : ℕ) (words : List (List ℕ)) (choices : List Choice) → WordsSpell cores words choices → whole cores 0 0 1 words ≡ Ok choices
unfolding whole with_front
spells_whole cores words choices spell =
    ap (whole cores 0 0 1) (sym (append-nil words))
    ∙ items_whole cores words choices spell.items 0 1 (omega (arith, spell.few)) []
    ∙ ap (λ (l : List Choice). Ok l) (append-nil choices)

gets_whole : (cores : ℕ) (words : List (List ℕ)) (fault : ChoiceFault) → 0 < cores → AreRefused cores words fault → whole cores 0 0 1 words ≡ Err fault
unfolding with_front
gets_whole cores words fault some get =
    let front = items_whole cores get.front get.choices get.items 0 1 (omega (arith, get.few)) get.back in
    let same_choices : 0 + length get.choices ≡ length get.choices = omega arith in
    let same_number : 1 + length get.front ≡ length get.front + 1 = omega arith in
    let back : whole cores 0 (0 + length get.choices) (1 + length get.front) get.back ≡ Err fault =
    rw (
      same_choices,
      same_number,
    ) (fault_whole cores (length get.choices) (length get.front + 1) get.back fault some get.few get.at_fault) in
    ap (whole cores 0 0 1) get.split ∙ front ∙ ap (with_front get.choices) back

one_list : (cores : ℕ) (words : List (List ℕ)) (choices others : List Choice)
    → WordsSpell cores words choices
    → WordsSpell cores words others
    → choices ≡ others
one_list cores words choices others spell other =
    let first = spells_whole cores words choices spell in
    let second = spells_whole cores words others other in
    cc

one_refusal : (cores : ℕ) (words : List (List ℕ)) (fault other : ChoiceFault)
    → 0 < cores
    → AreRefused cores words fault
    → AreRefused cores words other
    → fault ≡ other
one_refusal cores words fault other some get gets =
    let first = gets_whole cores words fault some get in
    let second = gets_whole cores words other some gets in
    cc

never_both : (cores : ℕ) (words : List (List ℕ)) (choices : List Choice) (fault : ChoiceFault)
    → 0 < cores
    → WordsSpell cores words choices
    → AreRefused cores words fault
    → ⊥
never_both cores words choices fault some spell get =
    let first = spells_whole cores words choices spell in
    let second = gets_whole cores words fault some get in
    absurd cc

some_words : (item : ChoiceItem) → 1 ≤ words_in item
some_words (One choice) = omega arith
some_words (Seeded seed count) = omega arith

-- words spell choices or get a refusal
abbrev Decided : ℕ → List (List ℕ) → Type 0
Decided cores words = ((choices : List Choice) × WordsSpell cores words choices) ⊎ ((fault : ChoiceFault) × AreRefused cores words fault)

-- what an item that was read leaves to be decided
item_next : (cores : ℕ) (front : List (List ℕ)) (word : List ℕ) (rest : List (List ℕ)) (choices : List Choice)
    (r : Result ChoiceItem ChoiceFault)
    → AreItems cores front choices
    → length choices ≤ most_choices
    → IsRead cores (length choices) (most_choices - length choices) (length front + 1) (word ∷ rest) r
    → ((front back : List (List ℕ)) (choices : List Choice)
    → length back ≤ length rest
    → AreItems cores front choices
    → length choices ≤ most_choices
    → Decided cores (front ++ back))
    → Decided cores (front ++ word ∷ rest)
item_next cores front word rest choices (Ok item) items few read goes_on =
    let used = take (words_in item) (word ∷ rest) in
    let left = drop (words_in item) (word ∷ rest) in
    let one_word : 1 ≤ words_in item = some_words item in
    let decided : Decided cores ((front ++ used) ++ left) =
    goes_on (front ++ used) left (choices ++ made_of cores item) (omega (arith, length-drop (words_in item) (word ∷ rest)))
    (one_more cores front choices items used (made_of cores item) read.is_item) (omega (arith, length-append choices (made_of cores item), read.room_left)) in
    subst (Decided cores) (append_assoc front used left ∙ ap (λ (ws : List (List ℕ)). front ++ ws) (take-append-drop (words_in item) (word ∷ rest))) decided
item_next cores front word rest choices (Err fault) items few read goes_on =
    inr (fault, record { front = front; back = word ∷ rest; choices = choices; split = refl; items = items; few = few; at_fault = read })

-- item by item, with so many words to go at most
item_by_item : (fuel cores : ℕ) (front back : List (List ℕ)) (choices : List Choice)
    → 0 < cores
    → length back ≤ fuel
    → AreItems cores front choices
    → length choices ≤ most_choices
    → Decided cores (front ++ back)
item_by_item fuel cores front [] choices some le items few =
    inl (
      choices,
      record {
        items = subst (λ (ws : List (List ℕ)). AreItems cores ws choices) (sym (append-nil front)) items;
        few = few;
      },
    )
item_by_item zero cores front (word ∷ rest) choices some le items few = absurd (omega arith)
item_by_item (suc fuel) cores front (word ∷ rest) choices some le items few =
    item_next cores front word rest choices (item_of cores (most_choices - length choices) (length front + 1) word rest) items few
    (item_read cores (length choices) (most_choices - length choices) (length front + 1) word rest some (omega arith))
    (λ f b cs shorter are within. item_by_item fuel cores f b cs some (omega arith) are within)

pub is_decided : (cores : ℕ) (text : List ℕ) → 0 < cores → IsDecidedAsChoices cores text
is_decided cores text some = record {
  one_list = one_list cores (words_of_text text);
  one_refusal = λ fault other. one_refusal cores (words_of_text text) fault other some;
  never_both = λ choices fault. never_both cores (words_of_text text) choices fault some;
  always = item_by_item (length (words_of_text text)) cores [] (words_of_text text) [] some (omega arith) none (omega arith);
}

-- an answer that says what words spell, or which refusal they get, is the only one but where memory runs out
pub only_these : (cores : ℕ) (words : List (List ℕ)) (r : Result (Vec Choice) ChoiceFault)
    → 0 < cores
    → IfOk r (λ v. WordsSpell cores words v.items)
    → IfErr r (λ f. f ≢ NoMemory → AreRefused cores words f)
    → (choices : List Choice) → WordsSpell cores words choices → MatchResult r (λ v. v.items ≡ choices) (λ f. f ≡ NoMemory)
only_these cores words (Ok v) some found refused choices spell = one_list cores words v.items choices found spell
only_these cores words (Err NoMemory) some found refused choices spell = refl
only_these cores words (Err fault) some found refused choices spell = absurd (never_both cores words choices fault some spell (refused (λ e. absurd cc)))

pub only_this : (cores : ℕ) (words : List (List ℕ)) (r : Result (Vec Choice) ChoiceFault)
    → 0 < cores
    → IfOk r (λ v. WordsSpell cores words v.items)
    → IfErr r (λ f. f ≢ NoMemory → AreRefused cores words f)
    → (fault : ChoiceFault) → AreRefused cores words fault → MatchResult r (λ _. ⊥) (λ f. f ≢ NoMemory → f ≡ fault)
only_this cores words (Ok v) some found refused fault get = never_both cores words v.items fault some found get
only_this cores words (Err f) some found refused fault get = λ other. one_refusal cores words f fault some (refused other) get
