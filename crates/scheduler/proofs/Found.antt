-- What reading an item gives is what the grammar and the refusals say of its words.
use Rattle.scheduler.proofs.Vocabulary.{◌≡◌, ℕ, zero, suc, ◌+◌, ◌<◌, ◌≤◌, ◌^◌, true, List, [], ◌∷◌, length, take, Option, Some, None}
use Rattle.scheduler.proofs.Vocabulary.{Result, Ok, Err, refl, sym, ap, subst, ◌∙◌, inl, inr, arith, bytes_eq, codes, cases_lt, false≢true}
use Rattle.scheduler.proofs.Vocabulary.{length-map, bytes_eq-Decides, Lcg, pcg32, Choice, ChoiceFault, BadWord, TooMany, ChoiceItem, Seeded}
use Rattle.scheduler.proofs.Vocabulary.{decimal_value, is_numeral, chosen, seeded_choices, drawn_words, generator, choice_of_word}
use Rattle.scheduler.proofs.Vocabulary.{most_choices, IsChoiceWord, IsItem, one, seeded, IsItemAtFault, bad_form, cut_seed, bad_seed}
use Rattle.scheduler.proofs.Vocabulary.{bad_count, no_core, too_many, made_of, words_in, one_of, seed_of, seeded_from, seeded_of, item_of}
use Rattle.std.specs.Prelude.{◌≢◌}
use Rattle.scheduler.proofs.ChoiceWords.{either, number_in, number_out, reads_absent, reads_full, reads_there, not_a_choice, word_cases}

-- as many words as one asks for, and as many choices
length_words : (n : ℕ) (g : Lcg) → length (drawn_words n g) ≡ n
unfolding drawn_words
length_words zero g = refl
length_words (suc n) g = ap suc (length_words n (pcg32 g).1)

pub length_seeded : (cores seed count : ℕ) → length (seeded_choices cores seed count) ≡ count
length_seeded cores seed count = length-map (drawn_words count (generator seed)) (choice_of_word cores) ∙ length_words count (generator seed)

-- what was read of an item is an item within the room, or its fault
pub record Fits (cores room : ℕ) (words : List (List ℕ)) (item : ChoiceItem) : Type 0 where
  pub is_item : IsItem cores (take (words_in item) words) (made_of cores item)
  pub room_left : length (made_of cores item) ≤ room
  pub words_there : words_in item ≤ length words

abbrev pub IsRead : ℕ → ℕ → ℕ → ℕ → List (List ℕ) → Result ChoiceItem ChoiceFault → Type 0
IsRead cores before room number words (Ok item) = Fits cores room words item
IsRead cores before room number words (Err fault) = IsItemAtFault cores before number words fault

read_choice : (cores before room number : ℕ) (word : List ℕ) (rest : List (List ℕ)) (c : Choice)
    → 0 < cores
    → before + room ≡ most_choices
    → IsChoiceWord word c
    → IsRead cores before room number (word ∷ rest) (one_of cores room number word)
read_choice cores before room number word rest c some sum is =
    let Read = IsRead cores before room number (word ∷ rest) in
    elim (cases_lt (chosen c) cores) [
      | inl below ↦ elim (cases_lt 0 room) [
        | inl space ↦
            subst Read (sym (reads_there cores room number word c is below space)) (record {
              is_item = one word c is below;
              room_left = space;
              words_there = omega arith;
            })
        | inr full ↦
            subst Read (sym (reads_full cores room number word c is below (omega arith)))
            (too_many (word ∷ []) (c ∷ []) rest (one word c is below) (omega arith))
      ]
      | inr over ↦ subst Read (sym (reads_absent cores room number word c some is over)) (no_core word c rest is over)
    ]

read_one : (cores before room number : ℕ) (word : List ℕ) (rest : List (List ℕ)) → 0 < cores → before + room ≡ most_choices → word ≢ codes "seed"
    → IsRead cores before room number (word ∷ rest) (one_of cores room number word)
read_one cores before room number word rest some sum other =
    elim (word_cases cores room number word) [
      | inl choice ↦ read_choice cores before room number word rest choice.0 some sum choice.1
      | inr bad ↦ subst (IsRead cores before room number (word ∷ rest)) (sym bad) (bad_form word rest (not_a_choice cores room number word some bad) other)
    ]

-- the seed that a word says
pub seed_in : (word : List ℕ) → is_numeral word ≡ true → decimal_value word < 2 ^ 64 → seed_of word ≡ Some (decimal_value word)
unfolding seed_of
seed_in word good small = rw good (number_in _ word (omega arith))

pub seed_out : (word : List ℕ) → ¬ ((is_numeral word ≡ true) × (decimal_value word < 2 ^ 64)) → seed_of word ≡ None
unfolding seed_of
seed_out word bad =
    elim (either (is_numeral word)) [
      | inl good ↦ elim (cases_lt (decimal_value word) (2 ^ 64)) [
        | inl small ↦ absurd (bad (good, small))
        | inr large ↦ rw good (number_out _ word (omega arith))
      ]
      | inr other ↦ rw other refl
    ]

read_count : (cores before room number : ℕ) (seed count : List ℕ) (rest : List (List ℕ))
    → before + room ≡ most_choices
    → is_numeral seed ≡ true
    → decimal_value seed < 2 ^ 64
    → IsRead cores before room number (codes "seed" ∷ seed ∷ count ∷ rest) (seeded_from room number (Some (decimal_value seed)) count)
read_count cores before room number seed count rest sum good small =
    let Read = IsRead cores before room number (codes "seed" ∷ seed ∷ count ∷ rest) in
    elim (either (is_numeral count)) [
      | inl well ↦
          let item : IsItem cores (codes "seed" ∷ seed ∷ count ∷ [])
          (seeded_choices cores (decimal_value seed) (decimal_value count)) =
          seeded seed count good small well in
          let long = length_seeded cores (decimal_value seed) (decimal_value count) in
          elim (cases_lt room (decimal_value count)) [
            | inl over ↦
                let none : seeded_from room number (Some (decimal_value seed)) count ≡ Err (TooMany number) = rw (well, number_out room count over) refl in
                subst Read (sym none) (too_many (codes "seed" ∷ seed ∷ count ∷ [])
                (seeded_choices cores (decimal_value seed) (decimal_value count)) rest item (omega (arith, long)))
            | inr within ↦
                let there : seeded_from room number (Some (decimal_value seed)) count
                ≡ Ok (Seeded (decimal_value seed) (decimal_value count)) =
                rw (well, number_in room count within) refl in
                subst Read (sym there) (record { is_item = item; room_left = omega (arith, long); words_there = omega arith })
          ]
      | inr bad ↦
          let none : seeded_from room number (Some (decimal_value seed)) count ≡ Err (BadWord (number + 2)) = rw bad refl in
          subst Read (sym none) (bad_count seed count rest good small (λ well. absurd cc))
    ]

read_seeded : (cores before room number : ℕ) (rest : List (List ℕ))
    → before + room ≡ most_choices
    → IsRead cores before room number (codes "seed" ∷ rest) (seeded_of room number rest)
unfolding seeded_of
read_seeded cores before room number [] sum = cut_seed [] (omega arith)
read_seeded cores before room number (seed ∷ []) sum = cut_seed (seed ∷ []) (omega arith)
read_seeded cores before room number (seed ∷ count ∷ rest) sum =
    let Read = λ (o : Option ℕ). IsRead cores before room number (codes "seed" ∷ seed ∷ count ∷ rest) (seeded_from room number o count) in
    let bad = λ (wrong : ¬ ((is_numeral seed ≡ true) × (decimal_value seed < 2 ^ 64))).
    subst Read (sym (seed_out seed wrong)) (bad_seed seed count rest wrong) in
    elim (either (is_numeral seed)) [
      | inl good ↦ elim (cases_lt (decimal_value seed) (2 ^ 64)) [
        | inl small ↦ subst Read (sym (seed_in seed good small)) (read_count cores before room number seed count rest sum good small)
        | inr large ↦ bad (λ p. omega (arith, p.1))
      ]
      | inr other ↦ bad (λ p. false≢true (sym other ∙ p.0))
    ]

pub item_read : (cores before room number : ℕ) (word : List ℕ) (rest : List (List ℕ)) → 0 < cores → before + room ≡ most_choices
    → IsRead cores before room number (word ∷ rest) (item_of cores room number word rest)
unfolding item_of
item_read cores before room number word rest some sum =
    elim (either (bytes_eq word (codes "seed"))) [
      | inl same ↦
          let is : codes "seed" ≡ word = sym ((bytes_eq-Decides word (codes "seed")).0 same) in
          rw same (subst (λ (w : List ℕ). IsRead cores before room number (w ∷ rest) (seeded_of room number rest)) is
          (read_seeded cores before room number rest sum))
      | inr other ↦
          rw other (read_one cores before room number word rest some sum (λ is. false≢true (sym other ∙ (bytes_eq-Decides word (codes "seed")).1 is)))
    ]
