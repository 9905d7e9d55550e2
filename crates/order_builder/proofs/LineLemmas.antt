-- Texts that are split_once at a byte, and their lines.
use Rattle.order_builder.proofs.Vocabulary.{◌≡◌, ℕ, zero, suc, ◌+◌, ◌-◌, ◌<◌, ◌≤◌, Bool, true, false, ltb, eqb, List, [], ◌∷◌, ◌++◌, length, get_or}
use Rattle.order_builder.proofs.Vocabulary.{take, take_all, drop, Option, Some, None, All, refl, sym, ap, subst, ◌∙◌, inl, inr, arith}
use Rattle.order_builder.proofs.Vocabulary.{position, position_or_len, slice_split, option_map, strip_carriage_return, lt-ltb, le-ltb}
use Rattle.order_builder.proofs.Vocabulary.{ltb-false, eqb-true, nat_tests, take_at, drop_at, append_assoc, length-append, length-drop}
use Rattle.order_builder.proofs.Vocabulary.{length-take, get_or-take, get_or_at, get_or_append_left, length_push, take-append-drop}
use Rattle.order_builder.proofs.Vocabulary.{drop_more, nil_from_length, All-get_or, All-from_get_or, position-Some, position_or_len_is}
use Rattle.order_builder.proofs.Vocabulary.{fails_before_first, count_by-le-length, slice_split_none, slice_split_at, length-slice_split}
use Rattle.order_builder.proofs.Vocabulary.{lines_in, lines_of, is_line_feed, split_once, halves_at}
use Rattle.order_builder.proofs.Vocabulary.{IsFirstOfLines, IsOtherFirst, order_start, bytes_eq, codes}
use Rattle.order_builder.proofs.Choosing.{chosen, bytes_eq-other}

-- no byte of the text is this one
abbrev pub Lacks : ℕ → List ℕ → Type 0
Lacks byte text = All (λ b. eqb b byte ≡ false) text

-- ---- the first of some elements that passes a test

pub first_at : {A : Type 0} (p : A → Bool) (xs : List A) (i : ℕ) (d : A) → i < length xs → ((k : ℕ) → k < i → p (get_or xs k d) ≡ false)
    → p (get_or xs i d) ≡ true → position p xs ≡ Some i
first_at p xs i d lt before here =
    let at : position_or_len p xs ≡ i = position_or_len_is p xs i d (omega arith) before (λ _. here) in
    let room : ltb i (length xs) ≡ true = lt-ltb _ _ lt in
    rw (at, room) refl

pub first_none : {A : Type 0} (p : A → Bool) (xs : List A) (i : ℕ) (d : A) → i ≡ length xs → ((k : ℕ) → k < i → p (get_or xs k d) ≡ false)
    → position p xs ≡ None
first_none p xs i d all before =
    let at : position_or_len p xs ≡ i = position_or_len_is p xs i d (omega arith) before (λ lt. absurd (omega arith)) in
    let room : ltb i (length xs) ≡ false = le-ltb _ _ (omega arith) in
    rw (at, room) refl

-- ---- texts that are split

halved : (text : List ℕ) (o : Option ℕ) (xs ys : List ℕ)
    → option_map (halves_at text) o ≡ Some (xs, ys)
    → (i : ℕ) × (o ≡ Some i) × (take i text ≡ xs) × (drop (i + 1) text ≡ ys)
halved text None xs ys e = absurd cc
halved text (Some i) xs ys e =
    let same : (take i text, drop (i + 1) text) ≡ (xs, ys) = cc in
    (i, refl, ap (λ (p : List ℕ × List ℕ). p.0) same, ap (λ (p : List ℕ × List ℕ). p.1) same)

Lacks-before : (byte : ℕ) (text : List ℕ) (i : ℕ) → i < length text → ((k : ℕ) → k < i → eqb (get_or text k 0) byte ≡ false) → Lacks byte (take i text)
Lacks-before byte text i lt fails =
    All-from_get_or (λ b. eqb b byte ≡ false) (take i text) 0
    (λ k l. let below : k < i = omega (arith, length-take i text) in rw (get_or-take i text k 0 below) (fails k below))

pub split_once-Some : (byte : ℕ) (text xs ys : List ℕ) → split_once byte text ≡ Some (xs, ys) → (text ≡ xs ++ byte ∷ ys) × Lacks byte xs
unfolding split_once
split_once-Some byte text xs ys e =
    let h = halved text (position (λ b. eqb b byte) text) xs ys e in
    let at = position-Some (λ b. eqb b byte) text h.0 0 h.1 in
    let whole : take h.0 text ++ drop h.0 text ≡ text = take-append-drop h.0 text in
    let lt : h.0 < length text = at.0 in
    let back : drop h.0 text ≡ get_or text h.0 0 ∷ drop (h.0 + 1) text = drop_more text h.0 0 lt in
    let is_byte : get_or text h.0 0 ≡ byte = eqb-true _ _ at.1 in
    (sym whole ∙ rw (back, is_byte, h.2, h.3) refl, subst (Lacks byte) h.2 (Lacks-before byte text h.0 lt at.2))

halved_none : (text : List ℕ) (o : Option ℕ) → option_map (halves_at text) o ≡ None → o ≡ None
halved_none text None e = refl
halved_none text (Some i) e = absurd cc

pub split_once-None : (byte : ℕ) (text : List ℕ) → split_once byte text ≡ None → Lacks byte text
unfolding split_once
split_once-None byte text e =
    let none : position (λ b. eqb b byte) text ≡ None = halved_none text (position (λ b. eqb b byte) text) e in
    elim (chosen (ltb (position_or_len (λ b. eqb b byte) text) (length text)) (Some (position_or_len (λ b. eqb b byte) text)) None None none) [
      | inl hit ↦ absurd cc
      | inr miss ↦
          let past : length text ≤ position_or_len (λ b. eqb b byte) text = ltb-false _ _ miss.0 in
          All-from_get_or (λ b. eqb b byte ≡ false) text 0 (λ k l. fails_before_first (λ b. eqb b byte) text k 0 (omega arith))
    ]

pub split_once-at : (byte : ℕ) (xs ys : List ℕ) → Lacks byte xs → split_once byte (xs ++ byte ∷ ys) ≡ Some (xs, ys)
unfolding split_once
split_once-at byte xs ys lacks =
    let at : position_or_len (λ b. eqb b byte) (xs ++ byte ∷ ys) ≡ length xs =
    position_or_len_is (λ b. eqb b byte) (xs ++ byte ∷ ys) (length xs) 0 (omega (arith, length-append xs (byte ∷ ys)))
    (λ k lt. rw (get_or_append_left xs (byte ∷ ys) 0 k lt) (All-get_or (λ b. eqb b byte ≡ false) xs k 0 lt lacks))
    (λ _. rw (get_or_at xs byte ys 0 (length xs) refl) (grind (arith, nat_tests))) in
    let room : ltb (length xs) (length (xs ++ byte ∷ ys)) ≡ true = lt-ltb _ _ (omega (arith, length-append xs (byte ∷ ys))) in
    let front : take (length xs) (xs ++ byte ∷ ys) ≡ xs = take_at xs (byte ∷ ys) (length xs) refl in
    let back : drop (length xs + 1) (xs ++ byte ∷ ys) ≡ ys =
    ap (drop (length xs + 1)) (sym (append_assoc xs (byte ∷ []) ys)) ∙ drop_at (xs ++ byte ∷ []) ys (length xs + 1) (length_push xs byte) in
    rw (at, room, front, back) refl

pub split_once-first : (byte : ℕ) (text : List ℕ) (i : ℕ) → i < length text → ((k : ℕ) → k < i → eqb (get_or text k 0) byte ≡ false) → get_or text i 0 ≡ byte
    → Some (take i text, take (length text - (i + 1)) (drop (i + 1) text)) ≡ split_once byte text
unfolding split_once
split_once-first byte text i lt before here =
    let found = first_at (λ b. eqb b byte) text i 0 lt before (rw here (grind (arith, nat_tests))) in
    rw (found, take_all (length text - (i + 1)) (drop (i + 1) text) (omega (arith, length-drop (i + 1) text))) refl

pub split_once-nowhere : (byte : ℕ) (text : List ℕ) (i : ℕ) → i ≡ length text → ((k : ℕ) → k < i → eqb (get_or text k 0) byte ≡ false)
    → None ≡ split_once byte text
unfolding split_once
split_once-nowhere byte text i past before = rw (first_none (λ b. eqb b byte) text i 0 past before) refl

-- ---- lines

more_lines : (part : List ℕ) (parts : List (List ℕ)) → 0 < length parts → lines_in (part ∷ parts) ≡ strip_carriage_return part ∷ lines_in parts
more_lines part [] some = absurd (omega arith)
more_lines part (next ∷ parts) some = refl

pub lines_of-nil : (text : List ℕ) → length text ≡ 0 → lines_of text ≡ []
unfolding lines_of
lines_of-nil text none = rw (nil_from_length text none) refl

pub lines_of-line : (line rest : List ℕ) → Lacks 10 line → lines_of (line ++ 10 ∷ rest) ≡ strip_carriage_return line ∷ lines_of rest
unfolding lines_of
lines_of-line line rest lacks =
    let split : slice_split is_line_feed (line ++ 10 ∷ rest) ≡ line ∷ slice_split is_line_feed rest = slice_split_at is_line_feed line 10 rest lacks refl in
    rw split (more_lines line (slice_split is_line_feed rest) (omega (arith, length-slice_split is_line_feed rest)))

pub lines_of-last : (line : List ℕ) → Lacks 10 line → 0 < length line → lines_of line ≡ strip_carriage_return line ∷ []
unfolding lines_of
lines_of-last line lacks some =
    let split : slice_split is_line_feed line ≡ line ∷ [] = slice_split_none is_line_feed line lacks in
    let not_empty : eqb (length line) 0 ≡ false = grind (arith, nat_tests) in
    rw (split, not_empty) refl

-- the first line, where a line feed ends it
pub lines_of-split_once : (text line rest : List ℕ) → Some (line, rest) ≡ split_once 10 text → lines_of text ≡ strip_carriage_return line ∷ lines_of rest
lines_of-split_once text line rest e =
    let p = split_once-Some 10 text line rest (sym e) in
    ap lines_of p.0 ∙ lines_of-line line rest p.1

-- the one line of a text without a line feed
pub lines_of-alone : (text : List ℕ) → None ≡ split_once 10 text → 0 < length text → lines_of text ≡ strip_carriage_return text ∷ lines_of []
lines_of-alone text e some =
    lines_of-last text (split_once-None 10 text (sym e)) some
    ∙ ap (λ (l : List (List ℕ)). strip_carriage_return text ∷ l) (sym (lines_of-nil [] refl))

-- a text that isn't empty has a line
pub some_line : (text : List ℕ) → 0 < length text → lines_of text ≡ [] → ⊥
some_line text some none = halved (split_once 10 text) refl where
  halved : (o : Option (List ℕ × List ℕ)) → o ≡ split_once 10 text → ⊥
  halved (Some (line, rest)) e = let first = lines_of-split_once text line rest e in cc
  halved None e = let alone = lines_of-alone text e some in cc

-- ---- a first line that isn't `Order`

first_of_front : (line : List ℕ) (n b : ℕ) (bs : List ℕ) → take n line ≡ b ∷ bs → get_or line 0 0 ≡ b
first_of_front line zero b bs e = absurd cc
first_of_front [] (suc n) b bs e = absurd cc
first_of_front (c ∷ cs) (suc n) b bs e = cc

first_kept : (line : List ℕ) (b : ℕ) (bs : List ℕ) → strip_carriage_return line ≡ b ∷ bs → get_or line 0 0 ≡ b
first_kept line b bs e =
    elim (chosen (eqb (get_or line (length line - 1) 0) 13) (take (length line - 1) line) line (b ∷ bs) e) [
      | inl hit ↦ first_of_front line (length line - 1) b bs hit.1
      | inr miss ↦ ap (λ (l : List ℕ). get_or l 0 0) miss.1
    ]

still_first : (line more : List ℕ) → get_or line 0 0 ≡ 79 → get_or (line ++ more) 0 0 ≡ 79
still_first [] more e = absurd cc
still_first (b ∷ bs) more e = e

other_line : (line : List ℕ) → (get_or line 0 0 ≡ 79 → ⊥) → bytes_eq (strip_carriage_return line) (codes "Order") ≡ false
other_line line other = bytes_eq-other (strip_carriage_return line) (codes "Order") (λ same. other (first_kept line 79 (codes "rder") same))

-- the first line of a text that doesn't begin with `O`
pub other_first : (text : List ℕ) → 0 < length text → (get_or text 0 0 ≡ 79 → ⊥) → IsOtherFirst (lines_of text)
other_first text some other = halved (split_once 10 text) refl where
  halved : (o : Option (List ℕ × List ℕ)) → o ≡ split_once 10 text → IsOtherFirst (lines_of text)
  halved (Some (line, rest)) e =
      let whole : text ≡ line ++ 10 ∷ rest = (split_once-Some 10 text line rest (sym e)).0 in
      let begins : get_or line 0 0 ≡ 79 → ⊥ = λ first. other (ap (λ (l : List ℕ). get_or l 0 0) whole ∙ still_first line (10 ∷ rest) first) in
      (lines_of rest, (strip_carriage_return line, lines_of-split_once text line rest e, other_line line begins))
  halved None e = (lines_of [], (strip_carriage_return text, lines_of-alone text e some, other_line text other))

-- ---- where `Order` is, by the first line

pub start_here : (n : ℕ) (lines after : List (List ℕ)) (found : Option (ℕ × List (List ℕ))) → IsFirstOfLines true after lines
    → order_start n lines ≡ found → Some (n + 1, after) ≡ found
unfolding order_start
start_here n lines after found first so_far =
    let here : order_start n (first.0 ∷ after) ≡ Some (n + 1, after) = rw first.2 refl in
    sym here ∙ ap (order_start n) (sym first.1) ∙ so_far

pub start_later : (n : ℕ) (lines after : List (List ℕ)) (found : Option (ℕ × List (List ℕ))) → IsFirstOfLines false after lines
    → order_start n lines ≡ found → order_start (n + 1) after ≡ found
unfolding order_start
start_later n lines after found first so_far =
    let later : order_start n (first.0 ∷ after) ≡ order_start (n + 1) after = rw first.2 refl in
    sym later ∙ ap (order_start n) (sym first.1) ∙ so_far

-- ---- how many lines there are

lines_in-length : (parts : List (List ℕ)) → length (lines_in parts) ≤ length parts
lines_in-length [] = omega arith
lines_in-length (rest ∷ []) =
    elim (chosen (eqb (length rest) 0) [] (strip_carriage_return rest ∷ []) _ refl) [
      | inl hit ↦ rw hit.0 (omega arith)
      | inr miss ↦ rw miss.0 (omega arith)
    ]
lines_in-length (part ∷ next ∷ parts) = let more = lines_in-length (next ∷ parts) in omega (arith, more)

pub lines_of-length : (text : List ℕ) → length (lines_of text) ≤ length text + 1
unfolding lines_of
lines_of-length text =
    omega (
      arith,
      lines_in-length (slice_split is_line_feed text),
      length-slice_split is_line_feed text,
      count_by-le-length is_line_feed text,
    )
