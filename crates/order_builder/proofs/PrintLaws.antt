-- What is printed of an order spells it, in the midst of other lines too.
use Rattle.order_builder.proofs.Vocabulary.{◌≡◌, ℕ, zero, suc, ◌+◌, ◌-◌, ◌/◌, ◌%◌, ◌<◌, Bool, true, false, not, eqb, ltb, leb, inl, inr}
use Rattle.order_builder.proofs.Vocabulary.{List, [], ◌∷◌, ◌++◌, length, map, get_or, take, All, refl, sym, ap, ◌∙◌, arith, codes, decimal}
use Rattle.order_builder.proofs.Vocabulary.{digits, digits_onto, digit_glyph, list_all, strip_carriage_return, and_parts, and_from}
use Rattle.order_builder.proofs.Vocabulary.{eqb-true, nat_tests, append_assoc, append-nil, take_all, take_more, All-cons, All-nil, All-head}
use Rattle.order_builder.proofs.Vocabulary.{All-tail, All-get_or, list_all-append, Litmus, IsTest, continues_name, Entry, Kind, R, F}
use Rattle.order_builder.proofs.Vocabulary.{lines_of, letters_of, printed_access, printed_entry, printed_end, order_lines, printed_lines}
use Rattle.order_builder.proofs.Vocabulary.{printed_order, HasAccess, IsEntryFor, IsOrderFor, IsNotOrderLine, IsLineBeforeOrder}
use Rattle.order_builder.proofs.Vocabulary.{SpellsOrder}
use Rattle.order_builder.proofs.Choosing.{chosen}
use Rattle.order_builder.proofs.LineLemmas.{Lacks, lines_of-line}
use Rattle.order_builder.proofs.NameLaws.{lacks_from_all, all_of_location}

-- ---- bytes that are no control bytes

pub is_graphic : ℕ → Bool
is_graphic b = leb 32 b

weaker : (p q : ℕ → Bool) (text : List ℕ) → ((b : ℕ) → p b ≡ true → q b ≡ true) → list_all p text ≡ true → list_all q text ≡ true
weaker p q [] follows all = refl
weaker p q (b ∷ bs) follows all =
    let parts = and_parts _ _ all in
    and_from _ _ (follows b parts.0) (weaker p q bs follows parts.1)

joined : (xs ys : List ℕ) → list_all is_graphic xs ≡ true → list_all is_graphic ys ≡ true → list_all is_graphic (xs ++ ys) ≡ true
joined xs ys front back = list_all-append is_graphic xs ys ∙ and_from _ _ front back

glyph : (n : ℕ) → is_graphic (digit_glyph false (n % 10)) ≡ true
unfolding is_graphic
glyph n = let small : ltb (n % 10) 10 ≡ true = grind (arith, nat_tests) in rw small (grind (arith, nat_tests))

graphic_digits : (k n : ℕ) (acc : List ℕ) → list_all is_graphic acc ≡ true → list_all is_graphic (digits_onto k 10 false n acc) ≡ true
graphic_digits zero n acc all = all
graphic_digits (suc k) n acc all =
    elim (chosen (eqb (n / 10) 0) (digit_glyph false (n % 10) ∷ acc) (digits_onto k 10 false (n / 10) (digit_glyph false (n % 10) ∷ acc)) _ refl) [
      | inl hit ↦ rw hit.0 (and_from _ _ (glyph n) all)
      | inr miss ↦ rw miss.0 (graphic_digits k (n / 10) (digit_glyph false (n % 10) ∷ acc) (and_from _ _ (glyph n) all))
    ]

graphic-decimal : (n : ℕ) → list_all is_graphic (decimal n) ≡ true
unfolding digits
graphic-decimal n = graphic_digits 64 n [] refl

in_name_graphic : (b : ℕ) → continues_name b ≡ true → is_graphic b ≡ true
unfolding is_graphic
in_name_graphic b in_name = grind (arith, nat_tests)

graphic-location : (t : Litmus) (loc : ℕ) → IsTest t → loc < length t.locations → list_all is_graphic (get_or t.locations loc []) ≡ true
graphic-location t loc test known = weaker continues_name is_graphic (get_or t.locations loc []) in_name_graphic (all_of_location t loc test known)

graphic-word : (t : Litmus) (loc value : ℕ)
    → IsTest t
    → loc < length t.locations
    → list_all is_graphic (codes " " ++ (get_or t.locations loc [] ++ (codes "=" ++ decimal value))) ≡ true
unfolding is_graphic
graphic-word t loc value test known =
    joined (get_or t.locations loc []) (codes "=" ++ decimal value) (graphic-location t loc test known) (graphic-decimal value)

graphic-access : (t : Litmus) (kind : Kind) (loc value : ℕ)
    → IsTest t
    → HasAccess t kind loc value
    → list_all is_graphic (printed_access t kind loc value) ≡ true
graphic-access t F loc value test has = refl
graphic-access t kind loc value test has = graphic-word t loc value test has.0

graphic-letters : (kind : Kind) → list_all is_graphic (letters_of kind) ≡ true
unfolding is_graphic
graphic-letters R = refl
graphic-letters kind = refl

graphic-entry : (t : Litmus) (e : Entry) → IsTest t → IsEntryFor t e → list_all is_graphic (printed_entry t e) ≡ true
unfolding is_graphic
graphic-entry t e test is =
    let action =
    joined (letters_of e.kind) (printed_access t e.kind e.loc.0 e.value) (graphic-letters e.kind)
    (graphic-access t e.kind e.loc.0 e.value test is.access) in
    let place = joined (decimal e.place) (codes " " ++ (letters_of e.kind ++ printed_access t e.kind e.loc.0 e.value)) (graphic-decimal e.place) action in
    joined (decimal e.core.0)
    (codes ":"
    ++ (decimal e.place ++ (codes " " ++ (letters_of e.kind ++ printed_access t e.kind e.loc.0 e.value))))
    (graphic-decimal e.core.0) place

graphic-end : (count : ℕ) → list_all is_graphic (printed_end count) ≡ true
unfolding is_graphic
graphic-end count = graphic-decimal count

abbrev pub AreGraphic : List (List ℕ) → Type 0
AreGraphic [] = Unit {0}
AreGraphic (line ∷ lines) = (list_all is_graphic line ≡ true) × AreGraphic lines

graphic-entries : (t : Litmus) (order : List Entry) (count : ℕ)
    → IsTest t
    → IsOrderFor t order
    → AreGraphic (map (printed_entry t) order ++ (printed_end count ∷ []))
graphic-entries t [] count test are = (graphic-end count, tt)
graphic-entries t (e ∷ es) count test are =
    (graphic-entry t e test (All-head (IsEntryFor t) e es are), graphic-entries t es count test (All-tail (IsEntryFor t) e es are))

-- ---- printed lines

unreturned : (line : List ℕ) → Lacks 13 line → strip_carriage_return line ≡ line
unreturned [] lacks = refl
unreturned (b ∷ bs) lacks =
    let last : eqb (get_or (b ∷ bs) (length (b ∷ bs) - 1) 0) 13 ≡ false =
    All-get_or (λ c. eqb c 13 ≡ false) (b ∷ bs) (length (b ∷ bs) - 1) 0 (omega arith) lacks in
    rw last refl

lines_of-graphic : (lines : List (List ℕ)) (rest : List ℕ) → AreGraphic lines → lines_of (printed_lines lines ++ rest) ≡ lines ++ lines_of rest
unfolding is_graphic
lines_of-graphic [] rest are = refl
lines_of-graphic (line ∷ lines) rest are =
    ap lines_of (append_assoc line (10 ∷ printed_lines lines) rest)
    ∙ lines_of-line line (printed_lines lines ++ rest) (lacks_from_all is_graphic 10 line refl are.0)
    ∙ rw (unreturned line (lacks_from_all is_graphic 13 line refl are.0)) (ap (λ (l : List (List ℕ)). line ∷ l) (lines_of-graphic lines rest are.1))

lines_of-before : (lines : List (List ℕ)) (rest : List ℕ)
    → All IsLineBeforeOrder lines
    → lines_of (printed_lines lines ++ rest) ≡ map strip_carriage_return lines ++ lines_of rest
lines_of-before [] rest are = refl
lines_of-before (line ∷ lines) rest are =
    let one = All-head IsLineBeforeOrder line lines are in
    ap lines_of (append_assoc line (10 ∷ printed_lines lines) rest)
    ∙ lines_of-line line (printed_lines lines ++ rest) (lacks_from_all (λ b. not (eqb b 10)) 10 line refl one.whole)
    ∙ ap (λ (l : List (List ℕ)). strip_carriage_return line ∷ l) (lines_of-before lines rest (All-tail IsLineBeforeOrder line lines are))

-- a line that loses its carriage return
returned : (line : List ℕ) → eqb (get_or line (length line - 1) 0) 13 ≡ true → line ≡ take (length line - 1) line ++ 13 ∷ []
returned [] last = absurd cc
returned (b ∷ bs) last =
    let place : length (b ∷ bs) - 1 + 1 ≡ length (b ∷ bs) = omega arith in
    let byte : get_or (b ∷ bs) (length (b ∷ bs) - 1) 0 ≡ 13 = eqb-true _ _ last in
    sym (take_all (length (b ∷ bs) - 1 + 1) (b ∷ bs) (omega arith)) ∙ take_more (b ∷ bs) (length (b ∷ bs) - 1) 0 (omega arith)
    ∙ ap (λ (c : ℕ). take (length (b ∷ bs) - 1) (b ∷ bs) ++ c ∷ []) byte

other_before : (line : List ℕ) → IsLineBeforeOrder line → IsNotOrderLine (strip_carriage_return line)
other_before line is same =
    elim (chosen (eqb (get_or line (length line - 1) 0) 13) (take (length line - 1) line) line (codes "Order") same) [
      | inl hit ↦ is.other_returned (returned line hit.0 ∙ ap (λ (l : List ℕ). l ++ 13 ∷ []) hit.1)
      | inr miss ↦ is.other miss.1
    ]

others_before : (lines : List (List ℕ)) → All IsLineBeforeOrder lines → All IsNotOrderLine (map strip_carriage_return lines)
others_before [] are = All-nil IsNotOrderLine
others_before (line ∷ lines) are =
    All-cons IsNotOrderLine (strip_carriage_return line) (map strip_carriage_return lines)
    (other_before line (All-head IsLineBeforeOrder line lines are))
    (others_before lines (All-tail IsLineBeforeOrder line lines are))

graphic_first : list_all is_graphic (codes "Order") ≡ true
unfolding is_graphic
graphic_first = refl

pub printed_spells : (t : Litmus) (order : List Entry) (front : List (List ℕ)) (rest text : List ℕ)
    → IsTest t
    → IsOrderFor t order
    → All IsLineBeforeOrder front
    → text ≡ printed_lines front ++ (printed_order t order ++ rest) → SpellsOrder t text order
printed_spells t order front rest text test are others text-is =
    let graphic : AreGraphic (order_lines t order) = (graphic_first, graphic-entries t order (length order) test are) in
    record {
      before = map strip_carriage_return front;
      after = lines_of rest;
      lines =
          ap lines_of text-is ∙ lines_of-before front (printed_order t order ++ rest) others
          ∙ ap (λ (l : List (List ℕ)). map strip_carriage_return front ++ l) (lines_of-graphic (order_lines t order) rest graphic);
      first = others_before front others;
      entries = are;
    }

pub printed_alone : (t : Litmus) (order : List Entry) → IsTest t → IsOrderFor t order → SpellsOrder t (printed_order t order) order
printed_alone t order test are =
    printed_spells t order [] [] (printed_order t order) test are (All-nil IsLineBeforeOrder) (sym (append-nil (printed_order t order)))
