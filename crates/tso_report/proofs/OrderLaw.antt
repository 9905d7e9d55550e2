-- The lines of a report before its order are none that an order could begin with.
use Rattle.tso_report.proofs.Vocabulary.{◌≡◌, ℕ, ◌<◌, ◌^◌, Bool, true, not, eqb, List, [], ◌∷◌, ◌++◌, get_or, All, inl, inr, refl, ap, ◌∙◌}
use Rattle.tso_report.proofs.Vocabulary.{arith, rules, decimal, list_all, and_parts, and_from, nat_tests, digits_decimal, All-cons, All-nil}
use Rattle.tso_report.proofs.Vocabulary.{Litmus, IsTest, Bus, Atomic, Split, Entry, is_printable, is_test_name, printed_lines}
use Rattle.tso_report.proofs.Vocabulary.{printed_order, IsLineBeforeOrder, IsOrderFor, SpellsOrder, ShownRun, protocol_name, ProtocolKind}
use Rattle.tso_report.proofs.Vocabulary.{Msi, Geometry, IsLineSize, IsShapeWithinLimits, Configuration, report, line, test_line, shape_text}
use Rattle.tso_report.proofs.Vocabulary.{bus_text, register_lines, memory_line, condition_line, choices_line, cache_lines}
use Rattle.std.specs.Prelude.{codes}
use Rattle.std.specs.Char.{is_ascii_digit}
use Rattle.std.proofs.lemmas.Str.Parse.{IsNumeralModel, numerals_by_fold}
use Rattle.std.proofs.lemmas.List.{append_assoc}
use Rattle.std.proofs.lemmas.List.Folds.{list_all-append}
use Rattle.tso_terms.specs.Decimals.{decimal_from}
use Rattle.order_builder.specs.Lines.{is_line}

-- ---- no line feed

weaker : (p q : ℕ → Bool) (text : List ℕ) → ((b : ℕ) → p b ≡ true → q b ≡ true) → list_all p text ≡ true → list_all q text ≡ true
weaker p q [] follows all = refl
weaker p q (b ∷ bs) follows all =
    let parts = and_parts _ _ all in
    and_from _ _ (follows b parts.0) (weaker p q bs follows parts.1)

is_no_feed : ℕ → Bool
is_no_feed b = not (eqb b 10)

own : IsNumeralModel (λ ds. list_all is_ascii_digit ds ≡ true) (decimal_from 0)
unfolding decimal_from
own = numerals_by_fold _ (search rules) decimal_from (search rules)

digit_is_no_feed : (b : ℕ) → is_ascii_digit b ≡ true → is_no_feed b ≡ true
unfolding is_no_feed
digit_is_no_feed b is = grind (arith, nat_tests)

printable_is_no_feed : (b : ℕ) → is_printable b ≡ true → is_no_feed b ≡ true
unfolding is_no_feed
printable_is_no_feed b is = grind (arith, nat_tests)

printable_name : (name : List ℕ) → is_test_name name ≡ true → list_all is_printable name ≡ true
printable_name [] is = absurd cc
printable_name (c ∷ cs) is =
    let whole = and_parts _ _ is in
    let front = and_parts _ _ whole.0 in
    front.1

line_of_name : (t : Litmus) → IsTest t → is_line (codes "Test " ++ t.name) ≡ true
unfolding is_no_feed
line_of_name t test = weaker is_printable is_no_feed t.name printable_is_no_feed (printable_name t.name test.name_spelled)

line_of_number : (n : ℕ) → n < 2 ^ 64 → is_line (decimal n) ≡ true
unfolding is_no_feed
line_of_number n small = weaker is_ascii_digit is_no_feed (decimal n) digit_is_no_feed (digits_decimal own n small)

two_parts : (a b : List ℕ) → is_line a ≡ true → is_line b ≡ true → is_line (a ++ b) ≡ true
two_parts a b p q = list_all-append _ a b ∙ and_from _ _ p q

-- the machine's line without its end
machine_text : ProtocolKind → Configuration → List ℕ
machine_text kind c = codes "Machine " ++ (protocol_name kind ++ (codes " depth=" ++ (decimal c.depth ++ (shape_text c.shape ++ bus_text c.bus))))

line_size_is_small : (words : ℕ) → IsLineSize words → words < 2 ^ 64
line_size_is_small words (inl e) = omega (arith, e)
line_size_is_small words (inr (inl e)) = omega (arith, e)
line_size_is_small words (inr (inr e)) = omega (arith, e)

line_of_shape : (g : Geometry) → IsShapeWithinLimits g → is_line (shape_text g) ≡ true
line_of_shape g fits =
    let sets = line_of_number g.sets (omega (arith, fits.few_sets)) in
    let ways = line_of_number g.ways (omega (arith, fits.few_ways)) in
    let words = line_of_number g.words (line_size_is_small g.words fits.line_size) in
    two_parts (decimal g.sets) (codes " ways=" ++ (decimal g.ways ++ (codes " words=" ++ decimal g.words))) sets
    (two_parts (decimal g.ways) (codes " words=" ++ decimal g.words) ways words)

line_of_bus : (bus : Bus) → is_line (bus_text bus) ≡ true
line_of_bus Atomic = refl
line_of_bus Split = refl

line_of_depth : (c : Configuration)
    → c.depth < 2 ^ 64
    → IsShapeWithinLimits c.shape
    → is_line (codes " depth=" ++ (decimal c.depth ++ (shape_text c.shape ++ bus_text c.bus))) ≡ true
line_of_depth c small fits =
    two_parts (decimal c.depth) (shape_text c.shape ++ bus_text c.bus) (line_of_number c.depth small)
    (two_parts (shape_text c.shape) (bus_text c.bus) (line_of_shape c.shape fits) (line_of_bus c.bus))

line_of_machine : (kind : ProtocolKind) (c : Configuration) → c.depth < 2 ^ 64 → IsShapeWithinLimits c.shape → is_line (machine_text kind c) ≡ true
unfolding machine_text
line_of_machine Msi c small fits = line_of_depth c small fits
line_of_machine kind c small fits = line_of_depth c small fits

-- ---- no line `Order`

heads : (x y : ℕ) (xs ys : List ℕ) → x ∷ xs ≡ y ∷ ys → x ≡ y
heads x y xs ys same = ap (λ (l : List ℕ). get_or l 0 0) same

before_name : (t : Litmus) → IsTest t → IsLineBeforeOrder (codes "Test " ++ t.name)
before_name t test = record {
  whole = line_of_name t test;
  other = λ same. omega (arith, heads 84 79 _ _ same);
  other_returned = λ same. omega (arith, heads 84 79 _ _ same);
}

before_machine : (kind : ProtocolKind) (c : Configuration) → c.depth < 2 ^ 64 → IsShapeWithinLimits c.shape → IsLineBeforeOrder (machine_text kind c)
unfolding machine_text
before_machine kind c small fits = record {
  whole = line_of_machine kind c small fits;
  other = λ same. omega (arith, heads 77 79 _ _ same);
  other_returned = λ same. omega (arith, heads 77 79 _ _ same);
}

-- ---- the report

-- the lines before the order
front_of : Litmus → ProtocolKind → Configuration → List (List ℕ)
front_of t kind c = (codes "Test " ++ t.name) ∷ (machine_text kind c ∷ [])

line_of_text : (name depth shape_and_bus : List ℕ) → codes "Machine " ++ (name ++ (codes " depth=" ++ (depth ++ line shape_and_bus)))
    ≡ line (codes "Machine " ++ (name ++ (codes " depth=" ++ (depth ++ shape_and_bus))))
line_of_text name depth shape_and_bus = simp append_assoc

joined : (first second order rest : List ℕ)
    → ((first ++ 10 ∷ []) ++ (second ++ 10 ∷ [])) ++ (order ++ rest) ≡ (first ++ 10 ∷ (second ++ 10 ∷ [])) ++ (order ++ rest)
joined first second order rest = simp append_assoc

pub report_spells : ((t : Litmus) (order : List Entry) (front : List (List ℕ)) (rest text : List ℕ)
    → IsTest t → IsOrderFor t order → All IsLineBeforeOrder front
    → text ≡ printed_lines front ++ (printed_order t order ++ rest) → SpellsOrder t text order)
    → (t : Litmus) (kind : ProtocolKind) (c : Configuration) (s : ShownRun) → IsTest t → c.depth < 2 ^ 64 → IsShapeWithinLimits c.shape → IsOrderFor t s.order
    → SpellsOrder t (report t kind c s) s.order
unfolding front_of machine_text
report_spells amid t kind c s test small fits are =
    let rest =
    register_lines 0 s.registers
    ++ (memory_line t s.memory
    ++ (condition_line t s.holds ++ (choices_line s.used s.stalled s.unused ++ cache_lines 0 s.counts))) in
    let front : All IsLineBeforeOrder (front_of t kind c) =
    All-cons IsLineBeforeOrder (codes "Test " ++ t.name) (machine_text kind c ∷ []) (before_name t test)
    (All-cons IsLineBeforeOrder (machine_text kind c) [] (before_machine kind c small fits) (All-nil IsLineBeforeOrder)) in
    amid t s.order (front_of t kind c) rest (report t kind c s) test are front
    (ap (λ second. (test_line t ++ second) ++ (printed_order t s.order ++ rest))
    (line_of_text (protocol_name kind) (decimal c.depth) (shape_text c.shape ++ bus_text c.bus))
    ∙ joined (codes "Test " ++ t.name) (machine_text kind c) (printed_order t s.order) rest)
