-- Where the line `Order` is, as a walk over all bytes finds it.
use Rattle.order_builder.proofs.Vocabulary.{◌≡◌, ℕ, zero, suc, ◌+◌, ◌-◌, ◌<◌, ◌≤◌, true, false, ◌||◌, eqb, ltb, List, [], ◌∷◌, length, take}
use Rattle.order_builder.proofs.Vocabulary.{take_all, drop, get_or}
use Rattle.order_builder.proofs.Vocabulary.{Option, Some, None, refl, sym, ap, subst, ◌∙◌, ◌⊎◌, inl, inr, arith, nat_tests, eqb-true}
use Rattle.order_builder.proofs.Vocabulary.{ltb-false, drop-drop, drop_all}
use Rattle.order_builder.proofs.Vocabulary.{length-drop, length-take, get_or-drop, count_by, count_by_more_yes, count_by_more_no, strip_carriage_return}
use Rattle.order_builder.proofs.Vocabulary.{lines_of, is_line_feed, starts_line, order_start, IsOtherFirst, IsOrderLineAt}
use Rattle.order_builder.proofs.LineLemmas.{split_once-first, split_once-nowhere, lines_of-nil, lines_of-split_once, lines_of-alone}
use Rattle.order_builder.proofs.LineLemmas.{other_first, start_here, start_later}
use Rattle.order_builder.proofs.Choosing.{either_way}
use Rattle.std.proofs.lemmas.Bool.{ltb-true}
use Rattle.memchr.specs.Find.{Nowhere, NoneBefore, Passes, is_byte}

-- no line that begins before this place is `Order`: so `Order` is looked for from the last line that begins at or before it
pub record IsPast (text : List ℕ) (at : ℕ) : Type 0 where
  pub from : ℕ
  pub within : from ≤ at
  pub begins : starts_line text from ≡ true
  pub same_line : (k : ℕ) → from ≤ k → k < at → eqb (get_or text k 0) 10 ≡ false
  pub other : from < at → IsOtherFirst (lines_of (drop from text))
  pub start : order_start (count_by is_line_feed (take at text)) (lines_of (drop from text)) ≡ order_start 0 (lines_of text)

pub nothing_past : (text : List ℕ) → IsPast text 0
unfolding starts_line
nothing_past text = record {
  from = 0;
  within = omega arith;
  begins = refl;
  same_line = λ k from before. absurd (omega arith);
  other = λ before. absurd (omega arith);
  start = refl;
}

at_or_before : (m n : ℕ) → m ≤ n → (m < n) ⊎ (m ≡ n)
at_or_before m n le = elim (either_way (ltb m n)) [
  | inl before ↦ inl (ltb-true m n before)
  | inr past ↦ inr (let behind = ltb-false m n past in omega (arith, behind))
]

-- the line in which the place is, is another than `Order`
other_so_far : (text : List ℕ) (at : ℕ) (past : IsPast text at) → (starts_line text at ≡ true → IsOtherFirst (lines_of (drop at text)))
    → IsOtherFirst (lines_of (drop past.from text))
other_so_far text at past other =
    elim (at_or_before past.from at past.within) [
      | inl before ↦ past.other before
      | inr here ↦ subst (λ n. IsOtherFirst (lines_of (drop n text))) (sym here) (other (subst (λ n. starts_line text n ≡ true) here past.begins))
    ]

-- what comes after a line feed, where the line began at or before it
after_feed : (text : List ℕ) (from at : ℕ) → from ≤ at → at < length text → ((k : ℕ) → from ≤ k → k < at → eqb (get_or text k 0) 10 ≡ false)
    → get_or text at 0 ≡ 10 → lines_of (drop from text) ≡ strip_carriage_return (take (at - from) (drop from text)) ∷ lines_of (drop (at + 1) text)
after_feed text from at within lt before feed =
    let i = at - from in
    let line = drop from text in
    let rest : take (length line - (i + 1)) (drop (i + 1) line) ≡ drop (at + 1) text =
    take_all (length line - (i + 1)) (drop (i + 1) line) (omega (arith, length-drop (i + 1) line))
    ∙ drop-drop (i + 1) from text
    ∙ ap (λ n. drop n text) (omega arith) in
    let found = split_once-first 10 line i (omega (arith, length-drop from text))
    (λ k lt. rw (get_or-drop from text k 0) (before (from + k) (omega arith) (omega arith)))
    (get_or-drop from text i 0 ∙ ap (λ n. get_or text n 0) (omega arith) ∙ feed) in
    lines_of-split_once line (take i line) (drop (at + 1) text) (ap (λ (l : List ℕ). Some (take i line, l)) (sym rest) ∙ found)

later : (n : ℕ) (lines : List (List ℕ)) (line : List ℕ) (after : List (List ℕ)) (found : Option (ℕ × List (List ℕ)))
    → lines ≡ line ∷ after → IsOtherFirst lines → order_start n lines ≡ found → order_start (n + 1) after ≡ found
later n lines line after found are (others, (first, is, other)) start =
    let same : others ≡ after = cc in
    start_later n lines after found (first, is ∙ ap (λ l. first ∷ l) same, other) start

-- one byte further
pub one_past : (text : List ℕ) (at : ℕ) → at < length text → IsPast text at → (starts_line text at ≡ true → IsOtherFirst (lines_of (drop at text)))
    → IsPast text (at + 1)
unfolding starts_line
one_past text at lt past other =
    let first = other_so_far text at past other in
    elim (either_way (eqb (get_or text at 0) 10)) [
      | inl feed ↦ record {
        from = at + 1;
        within = omega arith;
        begins =
            let past_first : eqb (at + 1) 0 ≡ false = grind (arith, nat_tests) in
            let fed : eqb (get_or text (at + 1 - 1) 0) 10 ≡ true = ap (λ n. eqb (get_or text n 0) 10) (omega arith) ∙ feed in
            rw (past_first, fed) refl;
        same_line = λ k from before. absurd (omega arith);
        other = λ before. absurd (omega arith);
        start =
            rw (count_by_more_yes is_line_feed text at 0 lt feed)
            (later _ _ _ _ _ (after_feed text past.from at past.within lt past.same_line (eqb-true _ _ feed)) first past.start);
      }
      | inr plain ↦ record {
        from = past.from;
        within = omega (arith, past.within);
        begins = past.begins;
        same_line = λ k from before. elim (at_or_before k at (omega arith)) [
          | inl earlier ↦ past.same_line k from earlier
          | inr here ↦ rw here plain
        ];
        other = λ before. first;
        start = rw (count_by_more_no is_line_feed text at 0 lt plain) past.start;
      }
    ]

-- a byte that isn't `O` begins no line `Order`
past_other : (text : List ℕ) (at : ℕ) → at < length text → IsPast text at → (get_or text at 0 ≡ 79 → ⊥) → IsPast text (at + 1)
past_other text at lt past other =
    one_past text at lt past
    (λ begins. other_first (drop at text) (omega (arith, length-drop at text))
    (λ is. other (ap (λ n. get_or text n 0) (omega arith) ∙ sym (get_or-drop at text 0 0) ∙ is)))

-- these bytes after a place aren't `O`
abbrev pub AreOthers : List ℕ → ℕ → ℕ → Type 0
AreOthers text at others = (k : ℕ) → k < others → get_or text (at + k) 0 ≡ 79 → ⊥

past_others : (text : List ℕ) (at others : ℕ) → at + others ≤ length text → IsPast text at → AreOthers text at others → IsPast text (at + others)
past_others text at zero within past not_o = subst (IsPast text) (omega arith) past
past_others text at (suc others) within past not_o =
    let further : IsPast text (at + others) = past_others text at others (omega arith) past (λ k lt. not_o k (omega arith)) in
    subst (IsPast text) (omega arith) (past_other text (at + others) (omega arith) further (not_o others (omega arith)))

-- the bytes from a place on
abbrev pub slice_from : List ℕ → ℕ → List ℕ
slice_from text at = take (length text - at) (drop at text)

pub rest_from : (text : List ℕ) (at : ℕ) → drop at text ≡ slice_from text at
rest_from text at = sym (take_all (length text - at) (drop at text) (omega (arith, length-drop at text)))

pub first_within : (text : List ℕ) (at others : ℕ) → at ≤ length text
    → NoneBefore (Passes (is_byte 79) (slice_from text at)) 0 (length (slice_from text at)) others
    → at + others < length text
first_within text at others within first = omega (arith, first.high, length-drop at text, length-take (length text - at) (drop at text))

-- the first `O` after a place
pub up_to_first : (text : List ℕ) (at others : ℕ) → at ≤ length text → IsPast text at
    → NoneBefore (Passes (is_byte 79) (slice_from text at)) 0 (length (slice_from text at)) others
    → IsPast text (at + others)
up_to_first text at others within past first =
    past_others text at others (omega (arith, first_within text at others within first)) past
    (λ k lt is. first.before k (omega arith) lt (rw (← rest_from text at, get_or-drop at text k 0, is) refl))

-- without an `O` after a place the whole text is past
pub up_to_end : (text : List ℕ) (at : ℕ) → at ≤ length text → IsPast text at
    → Nowhere (Passes (is_byte 79) (slice_from text at)) 0 (length (slice_from text at))
    → IsPast text (length text)
up_to_end text at within past nowhere =
    let all : length (slice_from text at) ≡ length text - at = ap length (sym (rest_from text at)) ∙ length-drop at text in
    subst (IsPast text) (omega arith)
    (past_others text at (length text - at) (omega arith) past
    (λ k lt is. nowhere k (omega arith) (rw all lt) (rw (← rest_from text at, get_or-drop at text k 0, is) refl)))

-- a line that begins here is the one from which `Order` is looked for
from_here : (text : List ℕ) (at : ℕ) (past : IsPast text at) → starts_line text at ≡ true → past.from ≡ at
unfolding starts_line
from_here text at past begins =
    elim (at_or_before past.from at past.within) [
      | inl before ↦
          let plain : eqb (get_or text (at - 1) 0) 10 ≡ false = past.same_line (at - 1) (omega arith) (omega arith) in
          let later : eqb at 0 ≡ false = grind (arith, nat_tests) in
          absurd (let both : (eqb at 0 || eqb (get_or text (at - 1) 0) 10) ≡ false = rw (later, plain) refl in cc)
      | inr here ↦ here
    ]

pub order_found : (text : List ℕ) (at : ℕ) (after : List (List ℕ)) → IsPast text at → IsOrderLineAt text at after
    → Some (count_by is_line_feed (take at text) + 1, after) ≡ order_start 0 (lines_of text)
order_found text at after past (begins, first) =
    let start =
    subst (λ n.
    order_start (count_by is_line_feed (take at text)) (lines_of (drop n text)) ≡ order_start 0 (lines_of text))
    (from_here text at past begins) past.start in
    start_here _ _ after _ first start

pub order_nowhere : (text : List ℕ) → IsPast text (length text) → None ≡ order_start 0 (lines_of text)
unfolding order_start
order_nowhere text past =
    elim (at_or_before past.from (length text) past.within) [
      | inl before ↦
          let line = drop past.from text in
          let lacks = split_once-nowhere 10 line (length line) refl
          (λ k lt. rw (get_or-drop past.from text k 0) (past.same_line (past.from + k) (omega arith) (omega (arith, length-drop past.from text)))) in
          let alone = lines_of-alone line lacks (omega (arith, length-drop past.from text)) in
          let none : order_start (count_by is_line_feed (take (length text) text) + 1) (lines_of []) ≡ order_start 0 (lines_of text) =
          later _ _ _ _ _ alone (past.other before) past.start in
          ap (order_start (count_by is_line_feed (take (length text) text) + 1)) (sym (lines_of-nil [] refl)) ∙ none
      | inr here ↦
          let nil : lines_of (drop past.from text) ≡ [] = ap lines_of (drop_all past.from text (omega arith)) ∙ lines_of-nil [] refl in
          ap (order_start (count_by is_line_feed (take (length text) text))) (sym nil) ∙ past.start
    ]
