-- The first word of a text, and the words after it.
use Rattle.scheduler.proofs.Vocabulary.{◌≡◌, ℕ, ◌+◌, ◌<◌, suc, Bool, cond, true, false, not, List, [], ◌∷◌, length, take, drop, filter}
use Rattle.scheduler.proofs.Vocabulary.{refl, sym, ap, subst, ◌∙◌, inl, inr, eqb, arith, get_or, prefix_len, slice_split, onto_first}
use Rattle.scheduler.proofs.Vocabulary.{nat_tests, length-drop, is_space, words_of_text}
use Rattle.std.proofs.Math.Bool.{beq}
use Rattle.std.proofs.lemmas.List.{drop_more, drop_all}
use Rattle.scheduler.proofs.ChoiceWords.{either}

abbrev is_of_word : ℕ → Bool
is_of_word byte = not (is_space byte)

-- whether a byte is white space, or is none
abbrev pub is_of : Bool → ℕ → Bool
is_of space byte = cond space (is_space byte) (not (is_space byte))

stops : (space b : Bool) → not (beq b space) ≡ true → cond space b (not b) ≡ false
stops true true e = absurd cc
stops true false e = refl
stops false true e = refl
stops false false e = absurd cc

goes-on : (space b : Bool) → not (beq b space) ≡ false → cond space b (not b) ≡ true
goes-on true true e = refl
goes-on true false e = absurd cc
goes-on false true e = absurd cc
goes-on false false e = refl

pub prefix-ends : (space : Bool) (text : List ℕ) (i : ℕ) → i < length text → not (beq (is_space (get_or text i 0)) space) ≡ true
    → prefix_len (is_of space) text ≡ i + prefix_len (is_of space) (drop i text) → i ≡ prefix_len (is_of space) text
prefix-ends space text i lt other all =
    let back = drop_more text i 0 lt in
    sym (all ∙ rw (back, stops space (is_space (get_or text i 0)) other) (omega arith))

pub prefix-more : (space : Bool) (text : List ℕ) (i : ℕ) → i < length text → not (beq (is_space (get_or text i 0)) space) ≡ false
    → prefix_len (is_of space) text ≡ i + prefix_len (is_of space) (drop i text)
    → prefix_len (is_of space) text ≡ i + 1 + prefix_len (is_of space) (drop (i + 1) text)
prefix-more space text i lt same all =
    let back = drop_more text i 0 lt in
    all ∙ rw (back, goes-on space (is_space (get_or text i 0)) same) (omega arith)

pub prefix-whole : (space : Bool) (text : List ℕ) (i : ℕ) → i ≡ length text
    → prefix_len (is_of space) text ≡ i + prefix_len (is_of space) (drop i text) → length text ≡ prefix_len (is_of space) text
prefix-whole space text i all whole = sym (whole ∙ rw (drop_all i text (omega arith)) (omega arith))

abbrev is_some : List ℕ → Bool
is_some word = not (eqb (length word) 0)

abbrev past_space : List ℕ → List ℕ
past_space text = drop (prefix_len is_space text) text

abbrev past_word : List ℕ → List ℕ
past_word text = drop (prefix_len is_of_word text) text

abbrev word_in : List ℕ → List ℕ
word_in text = take (prefix_len is_of_word text) text

one-more : (n : ℕ) → 1 + n ≡ suc n
one-more n = omega arith

-- a space is passed over, and so is a byte of a word
space-past : (b : ℕ) (bs : List ℕ) → is_space b ≡ true → past_space (b ∷ bs) ≡ past_space bs
space-past b bs is = rw (is, one-more) refl

no-space-past : (b : ℕ) (bs : List ℕ) → is_space b ≡ false → past_space (b ∷ bs) ≡ b ∷ bs
no-space-past b bs is = rw is refl

word-past : (b : ℕ) (bs : List ℕ) → is_space b ≡ false → past_word (b ∷ bs) ≡ past_word bs
word-past b bs is = rw (is, one-more) refl

no-word-past : (b : ℕ) (bs : List ℕ) → is_space b ≡ true → past_word (b ∷ bs) ≡ b ∷ bs
no-word-past b bs is = rw is refl

word-more : (b : ℕ) (bs : List ℕ) → is_space b ≡ false → word_in (b ∷ bs) ≡ b ∷ word_in bs
word-more b bs is = rw (is, one-more) refl

no-word-more : (b : ℕ) (bs : List ℕ) → is_space b ≡ true → word_in (b ∷ bs) ≡ []
no-word-more b bs is = rw is refl

-- what is cut after the first part
abbrev parts_after : List ℕ → List (List ℕ)
parts_after [] = []
parts_after (b ∷ bs) = slice_split is_space bs

first_part : (text : List ℕ) → slice_split is_space text ≡ word_in text ∷ parts_after (past_word text)
first_part [] = refl
first_part (b ∷ bs) =
    elim (either (is_space b)) [
      | inl is ↦ rw (no-word-past b bs is, no-word-more b bs is, is) refl
      | inr is ↦ rw (word-past b bs is, word-more b bs is, is) (ap (onto_first b) (first_part bs))
    ]

words_after : (text : List ℕ) → filter is_some (parts_after (past_word text)) ≡ words_of_text (past_word text)
words_after [] = refl
words_after (b ∷ bs) =
    elim (either (is_space b)) [
      | inl is ↦ rw (no-word-past b bs is, is) refl
      | inr is ↦ rw (word-past b bs is) (words_after bs)
    ]

some-first : (b : ℕ) (bs : List ℕ) → is_some (b ∷ bs) ≡ true
some-first b bs = grind (arith, nat_tests)

-- a text that begins with no white space
word-first : (b : ℕ) (bs : List ℕ) → is_space b ≡ false → words_of_text (b ∷ bs) ≡ word_in (b ∷ bs) ∷ words_of_text (past_word (b ∷ bs))
word-first b bs is =
    ap (λ (parts : List (List ℕ)). filter is_some parts) (first_part (b ∷ bs))
    ∙ rw (word-past b bs is, word-more b bs is, some-first b (word_in bs)) (ap (λ (ws : List (List ℕ)). (b ∷ word_in bs) ∷ ws) (words_after bs))

space-first : (b : ℕ) (bs : List ℕ) → is_space b ≡ true → words_of_text (b ∷ bs) ≡ words_of_text bs
space-first b bs is = rw is refl

no_words : (text : List ℕ) → length (past_space text) ≡ 0 → words_of_text text ≡ []
no_words [] none = refl
no_words (b ∷ bs) none =
    elim (either (is_space b)) [
      | inl is ↦ space-first b bs is ∙ no_words bs (ap length (sym (space-past b bs is)) ∙ none)
      | inr is ↦ absurd (let some = ap length (no-space-past b bs is) in omega arith)
    ]

-- the white space that ends the word is no part of the words after it
word-ended : (text : List ℕ) → words_of_text (past_word text) ≡ words_of_text (drop 1 (past_word text))
word-ended [] = refl
word-ended (b ∷ bs) =
    elim (either (is_space b)) [
      | inl is ↦ rw (no-word-past b bs is) (space-first b bs is)
      | inr is ↦ rw (word-past b bs is) (word-ended bs)
    ]

-- what is said of the text after the white space is said of the text
abbrev Begins : List ℕ → List ℕ → Type 0
Begins text left = (words_of_text text ≡ word_in left ∷ words_of_text (drop 1 (past_word left))) × (length (drop 1 (past_word left)) < length text)

begins : (text : List ℕ) → 0 < length (past_space text) → Begins text (past_space text)
begins [] some = absurd (omega arith)
begins (b ∷ bs) some =
    elim (either (is_space b)) [
      | inl is ↦
          let same = space-past b bs is in
          let more = begins bs (let s = ap length same in omega arith) in
          subst (Begins (b ∷ bs)) (sym same) (space-first b bs is ∙ more.0, let l = more.1 in omega arith)
      | inr is ↦
          subst (Begins (b ∷ bs)) (sym (no-space-past b bs is)) (
            word-first b bs is ∙ ap (λ (ws : List (List ℕ)). word_in (b ∷ bs) ∷ ws) (word-ended (b ∷ bs)),
            let l = ap length (word-past b bs is) in omega (arith, length-drop (prefix_len is_of_word bs) bs, length-drop 1 (past_word (b ∷ bs))),
          )
    ]

word_first : (text left : List ℕ) → left ≡ past_space text → 0 < length left → words_of_text text ≡ word_in left ∷ words_of_text (drop 1 (past_word left))
word_first text left is some = (subst (Begins text) (sym is) (begins text (subst (λ (l : List ℕ). 0 < length l) is some))).0

word_shorter : (text left : List ℕ) → left ≡ past_space text → 0 < length left → length (drop 1 (past_word left)) < length text
word_shorter text left is some = (subst (Begins text) (sym is) (begins text (subst (λ (l : List ℕ). 0 < length l) is some))).1

-- the first word, as it is cut from a text part by part
pub word_found : (text left word after rest : List ℕ) (n k : ℕ) → n ≡ prefix_len (is_of true) text → left ≡ drop n text → 0 < length left
    → k ≡ prefix_len (is_of false) left → word ≡ take k left → after ≡ drop k left → rest ≡ drop 1 after
    → (words_of_text text ≡ word ∷ words_of_text rest) × (length rest < length text)
word_found text left word after rest n k n-is left-is some k-is word-is after-is rest-is =
    let at : left ≡ past_space text = left-is ∙ ap (λ i. drop i text) n-is in
    rw (rest-is, after-is, word-is, k-is) (word_first text left at some, word_shorter text left at some)

pub none_found : (text left : List ℕ) (n : ℕ) → n ≡ prefix_len (is_of true) text → left ≡ drop n text → length left ≡ 0 → words_of_text text ≡ []
none_found text left n n-is left-is none = no_words text (ap (λ i. length (drop i text)) (sym n-is) ∙ (ap length (sym left-is) ∙ none))
