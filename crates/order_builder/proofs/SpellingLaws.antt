-- What a text spells is read, and what is read it spells.
use Rattle.order_builder.proofs.Vocabulary.{◌≡◌, ℕ, suc, ◌+◌, ◌^◌, ◌<◌, true, false, eqb, ◌⊎◌, inl, inr, List, [], ◌∷◌, ◌++◌, length, map}
use Rattle.order_builder.proofs.Vocabulary.{All, Option, Some, None, Result, Ok, Err, refl, sym, ap, subst, ◌∙◌, arith, codes, decimal}
use Rattle.order_builder.proofs.Vocabulary.{bytes_eq, eqb-true, nat_tests, append_assoc, length-append, length-map, All-cons, All-nil}
use Rattle.order_builder.proofs.Vocabulary.{All-head, All-tail, Litmus, IsTest, Entry, lines_of, decimal_value, printed_entry, printed_end}
use Rattle.order_builder.proofs.Vocabulary.{order_lines, IsEntryFor, IsOrderFor, IsNotOrderLine, SpellsOrder, onto, entries_in, entry_in}
use Rattle.order_builder.proofs.Vocabulary.{end_in, order_start, order_of, OrderFault, NoOrder, BadLine, BadCount}
use Rattle.order_builder.proofs.Choosing.{chosen, same_bytes, bytes_eq-same, bytes_eq-other}
use Rattle.order_builder.proofs.NumberLaws.{is_number-decimal, value-decimal, decimal-value}
use Rattle.order_builder.proofs.LineLemmas.{lines_of-length}
use Rattle.order_builder.proofs.EntryLaws.{entry_again, entry_found, no_end_in_entry, end_again, end_found}

-- ---- up to the line `Order`

pub start_again : (before : List (List ℕ)) (n : ℕ) (lines : List (List ℕ))
    → All IsNotOrderLine before
    → order_start n (before ++ (codes "Order" ∷ lines)) ≡ Some (n + length before + 1, lines)
unfolding order_start
start_again [] n lines others = ap (λ (k : ℕ). Some (k + 1, lines)) (omega arith)
start_again (line ∷ before) n lines others =
    let other : bytes_eq line (codes "Order") ≡ false = bytes_eq-other line (codes "Order") (All-head IsNotOrderLine line before others) in
    let rest = start_again before (n + 1) lines (All-tail IsNotOrderLine line before others) in
    rw other (rest ∙ ap (λ (k : ℕ). Some (k, lines)) (omega arith))

pub none_again : (lines : List (List ℕ)) (n : ℕ) → All IsNotOrderLine lines → order_start n lines ≡ None
unfolding order_start
none_again [] n others = refl
none_again (line ∷ lines) n others =
    let other : bytes_eq line (codes "Order") ≡ false = bytes_eq-other line (codes "Order") (All-head IsNotOrderLine line lines others) in
    rw other (none_again lines (n + 1) (All-tail IsNotOrderLine line lines others))

differs : (line : List ℕ) → bytes_eq line (codes "Order") ≡ false → IsNotOrderLine line
differs line apart same = let equal : bytes_eq line (codes "Order") ≡ true = rw same (bytes_eq-same (codes "Order")) in cc

pub record StartsAt (lines : List (List ℕ)) (n : ℕ) (start : ℕ × List (List ℕ)) : Type 0 where
  pub before : List (List ℕ)
  pub whole : lines ≡ before ++ (codes "Order" ∷ start.1)
  pub others : All IsNotOrderLine before
  pub number : start.0 ≡ n + length before + 1

pub start_found : (lines : List (List ℕ)) (n : ℕ) (start : ℕ × List (List ℕ)) → order_start n lines ≡ Some start → StartsAt lines n start
unfolding order_start
start_found [] n start e = absurd cc
start_found (line ∷ lines) n start e =
    elim (chosen (bytes_eq line (codes "Order")) (Some (n + 1, lines)) (order_start (n + 1) lines) (Some start) e) [
      | inl hit ↦
          let same : (n + 1, lines) ≡ start = cc in
          subst (StartsAt (line ∷ lines) n) same (record {
            before = [];
            whole = ap (λ (l : List ℕ). l ∷ lines) (same_bytes _ _ hit.0);
            others = All-nil IsNotOrderLine;
            number = omega arith;
          })
      | inr miss ↦
          let more = start_found lines (n + 1) start miss.1 in
          record {
            before = line ∷ more.before;
            whole = ap (λ (l : List (List ℕ)). line ∷ l) more.whole;
            others = All-cons IsNotOrderLine line more.before (differs line miss.0) more.others;
            number = let number : start.0 ≡ n + 1 + length more.before + 1 = more.number in omega (arith, number);
          }
    ]

pub none_found : (lines : List (List ℕ)) (n : ℕ) → order_start n lines ≡ None → All IsNotOrderLine lines
unfolding order_start
none_found [] n e = All-nil IsNotOrderLine
none_found (line ∷ lines) n e =
    elim (chosen (bytes_eq line (codes "Order")) (Some (n + 1, lines)) (order_start (n + 1) lines) None e) [
      | inl hit ↦ absurd cc
      | inr miss ↦ All-cons IsNotOrderLine line lines (differs line miss.0) (none_found lines (n + 1) miss.1)
    ]

-- ---- entries

-- entries, and then what the lines after them give
abbrev pub after_entries : List Entry → Result (List Entry) OrderFault → Result (List Entry) OrderFault
after_entries [] read = read
after_entries (e ∷ es) read = onto e (after_entries es read)

pub entries_again : (t : Litmus) (start count : ℕ) (order : List Entry) (rest : List (List ℕ)) → IsTest t → IsOrderFor t order
    → entries_in t start count (map (printed_entry t) order ++ rest) ≡ after_entries order (entries_in t start (count + length order) rest)
unfolding entries_in
entries_again t start count [] rest test are = ap (λ (k : ℕ). entries_in t start k rest) (omega arith)
entries_again t start count (e ∷ es) rest test are =
    let more = entries_again t start (count + 1) es rest test (All-tail (IsEntryFor t) e es are) in
    let place : count + 1 + length es ≡ count + suc (length es) = omega arith in
    rw (no_end_in_entry t e, entry_again t e test (All-head (IsEntryFor t) e es are))
    (ap (onto e) (more ∙ ap (λ (k : ℕ). after_entries es (entries_in t start k rest)) place))

after-Ok : (order : List Entry) → after_entries order (Ok []) ≡ Ok order
after-Ok [] = refl
after-Ok (e ∷ es) = ap (onto e) (after-Ok es)

pub after-Err : (order : List Entry) (fault : OrderFault) → after_entries order (Err fault) ≡ Err fault
after-Err [] fault = refl
after-Err (e ∷ es) fault = ap (onto e) (after-Err es fault)

-- the end after so many entries
end_again' : (t : Litmus) (start count : ℕ) (after : List (List ℕ)) → count < 2 ^ 64 → entries_in t start count (printed_end count ∷ after) ≡ Ok []
unfolding entries_in
end_again' t start count after small =
    let end : end_in (printed_end count) ≡ Some (decimal count) = end_again (decimal count) (is_number-decimal count small) in
    let equal : eqb (decimal_value (decimal count)) count ≡ true = rw (value-decimal count small) (grind (arith, nat_tests)) in
    rw (end, equal) refl

pub order_again : (t : Litmus) (text : List ℕ) (order : List Entry) → IsTest t → length order < 2 ^ 64 → SpellsOrder t text order → order_of t text ≡ Ok order
unfolding order_of
order_again t text order test small spells =
    let lines : lines_of text ≡ spells.before ++ (codes "Order" ∷ (map (printed_entry t) order ++ (printed_end (length order) ∷ spells.after))) =
    spells.lines
    ∙ ap (λ (l : List (List ℕ)). spells.before ++ (codes "Order" ∷ l))
    (append_assoc (map (printed_entry t) order) (printed_end (length order) ∷ []) spells.after) in
    let starts = start_again spells.before 0 (map (printed_entry t) order ++ (printed_end (length order) ∷ spells.after)) spells.first in
    let start = 0 + length spells.before + 1 in
    let read = entries_again t start 0 order (printed_end (length order) ∷ spells.after) test spells.entries in
    let count : 0 + length order ≡ length order = omega arith in
    let last : entries_in t start (0 + length order) (printed_end (length order) ∷ spells.after) ≡ Ok [] =
    rw count (end_again' t start (length order) spells.after small) in
    rw (lines, starts) (read ∙ ap (after_entries order) last ∙ after-Ok order)

-- what is read of some lines after so many entries
record EndsAfter (t : Litmus) (count : ℕ) (lines : List (List ℕ)) (order : List Entry) : Type 0 where
  after : List (List ℕ)
  whole : lines ≡ map (printed_entry t) order ++ (printed_end (count + length order) ∷ after)
  entries : IsOrderFor t order

onto-Ok : (e : Entry) (read : Result (List Entry) OrderFault) (order : List Entry)
    → onto e read ≡ Ok order
    → (es : List Entry) × (read ≡ Ok es) × (e ∷ es ≡ order)
onto-Ok e (Ok es) order same = let equal : e ∷ es ≡ order = cc in (es, refl, equal)
onto-Ok e (Err fault) order same = absurd cc

pub onto-Err : (e : Entry) (read : Result (List Entry) OrderFault) (fault : OrderFault) → onto e read ≡ Err fault → read ≡ Err fault
onto-Err e (Ok es) fault same = absurd cc
onto-Err e (Err other) fault same = let equal : other ≡ fault = cc in ap (λ (f : OrderFault). Err f) equal

-- which way a look-up went
pub two_ways : {A : Type 0} (o : Option A) → ((x : A) × (o ≡ Some x)) ⊎ (o ≡ None)
two_ways (Some x) = inl (x, refl)
two_ways None = inr refl

-- an entry's line before lines that end so
one_more : (t : Litmus) (count : ℕ) (line : List ℕ) (lines : List (List ℕ)) (e : Entry) (es : List Entry) → IsEntryFor t e → line ≡ printed_entry t e
    → EndsAfter t (count + 1) lines es → EndsAfter t count (line ∷ lines) (e ∷ es)
one_more t count line lines e es is line-is more =
    let place : count + 1 + length es ≡ count + suc (length es) = omega arith in
    record {
      after = more.after;
      whole = rw (line-is, more.whole) (ap (λ (k : ℕ). printed_entry t e ∷ (map (printed_entry t) es ++ (printed_end k ∷ more.after))) place);
      entries = All-cons (IsEntryFor t) e es is more.entries;
    }

end_here : (t : Litmus) (count : ℕ) (line digits : List ℕ) (lines : List (List ℕ))
    → count < 2 ^ 64
    → end_in line ≡ Some digits
    → decimal_value digits ≡ count
    → EndsAfter t count (line ∷ lines) []
end_here t count line digits lines small e equal =
    let end = end_found line digits e in
    let digits-is : decimal (decimal_value digits) ≡ digits = decimal-value digits end.1 (omega (arith, equal)) in
    let place : decimal_value digits ≡ count + 0 = omega (arith, equal) in
    record {
      after = lines;
      whole = ap (λ (l : List ℕ). l ∷ lines) (end.0 ∙ ap (λ (l : List ℕ). codes "Endorder " ++ l) (sym digits-is) ∙ ap printed_end place);
      entries = All-nil (IsEntryFor t);
    }

entries_found : (t : Litmus) (start count : ℕ) (lines : List (List ℕ)) (order : List Entry)
    → count + length order < 2 ^ 64
    → entries_in t start count lines ≡ Ok order
    → EndsAfter t count lines order
unfolding entries_in
entries_found t start count [] order small e = absurd cc
entries_found t start count (line ∷ lines) order small e =
    elim (two_ways (end_in line)) [
      | inl end ↦
          elim (chosen (eqb (decimal_value end.0) count) (Ok []) (Err BadCount) (Ok order) (rw end.1 at e)) [
            | inl hit ↦
                let none : [] ≡ order = cc in
                subst (EndsAfter t count (line ∷ lines)) none (end_here t count line end.0 lines (omega (arith, small)) end.1 (eqb-true _ _ hit.0))
            | inr miss ↦ absurd cc
          ]
      | inr no_end ↦ elim (two_ways (entry_in t line)) [
        | inl entry ↦
            let rest = onto-Ok entry.0 (entries_in t start (count + 1) lines) order (rw (no_end, entry.1) at e) in
            let is = entry_found t line entry.0 entry.1 in
            let longer : suc (length rest.0) ≡ length order = ap (λ (l : List Entry). length l) rest.2 in
            subst (EndsAfter t count (line ∷ lines)) rest.2
            (one_more t count line lines entry.0 rest.0 is.0 is.1 (entries_found t start (count + 1) lines rest.0 (omega (arith, small, longer)) rest.1))
        | inr no_entry ↦ let bad : Err (BadLine (start + count + 1)) ≡ Ok order = rw (no_end, no_entry) at e in absurd cc
      ]
    ]

pub order_found : (t : Litmus) (text : List ℕ) (order : List Entry) → length order < 2 ^ 64 → order_of t text ≡ Ok order → SpellsOrder t text order
unfolding order_of
order_found t text order small e =
    elim (two_ways (order_start 0 (lines_of text))) [
      | inl start ↦
          let at = start_found (lines_of text) 0 start.0 start.1 in
          let read : entries_in t start.0.0 0 start.0.1 ≡ Ok order = rw start.1 at e in
          let ends = entries_found t start.0.0 0 start.0.1 order (omega (arith, small)) read in
          let count : 0 + length order ≡ length order = omega arith in
          let tail : start.0.1 ≡ map (printed_entry t) order ++ (printed_end (length order) ∷ ends.after) =
          ends.whole ∙ ap (λ (k : ℕ). map (printed_entry t) order ++ (printed_end k ∷ ends.after)) count in
          record {
            before = at.before;
            after = ends.after;
            lines =
                at.whole
                ∙ ap (λ (l : List (List ℕ)). at.before ++ (codes "Order" ∷ l))
                (tail
                ∙ sym (append_assoc (map (printed_entry t) order) (printed_end (length order) ∷ []) ends.after));
            first = at.others;
            entries = ends.entries;
          }
      | inr none ↦ let bad : Err NoOrder ≡ Ok order = rw none at e in absurd cc
    ]

-- ---- how long an order is

entries_length : (t : Litmus) (start count : ℕ) (lines : List (List ℕ)) (order : List Entry)
    → entries_in t start count lines ≡ Ok order
    → length order < length lines
unfolding entries_in
entries_length t start count [] order e = absurd cc
entries_length t start count (line ∷ lines) order e =
    elim (two_ways (end_in line)) [
      | inl end ↦
          elim (chosen (eqb (decimal_value end.0) count) (Ok []) (Err BadCount) (Ok order) (rw end.1 at e)) [
            | inl hit ↦ let none : [] ≡ order = cc in subst (λ (l : List Entry). length l < length (line ∷ lines)) none (omega arith)
            | inr miss ↦ absurd cc
          ]
      | inr no_end ↦ elim (two_ways (entry_in t line)) [
        | inl entry ↦
            let rest = onto-Ok entry.0 (entries_in t start (count + 1) lines) order (rw (no_end, entry.1) at e) in
            let more = entries_length t start (count + 1) lines rest.0 rest.1 in
            subst (λ (l : List Entry). length l < length (line ∷ lines)) rest.2 (omega (arith, more))
        | inr no_entry ↦ let bad : Err (BadLine (start + count + 1)) ≡ Ok order = rw (no_end, no_entry) at e in absurd cc
      ]
    ]

order_length : (t : Litmus) (text : List ℕ) (order : List Entry) → length text < 2 ^ 64 → order_of t text ≡ Ok order → length order < 2 ^ 64
unfolding order_of
order_length t text order small e =
    elim (two_ways (order_start 0 (lines_of text))) [
      | inl start ↦
          let at = start_found (lines_of text) 0 start.0 start.1 in
          let read : entries_in t start.0.0 0 start.0.1 ≡ Ok order = rw start.1 at e in
          let more = entries_length t start.0.0 0 start.0.1 order read in
          let whole : length (lines_of text) ≡ length at.before + length (codes "Order" ∷ start.0.1) =
          ap (λ (l : List (List ℕ)). length l) at.whole ∙ length-append at.before (codes "Order" ∷ start.0.1) in
          omega (arith, small, more, whole, lines_of-length text)
      | inr none ↦ let bad : Err NoOrder ≡ Ok order = rw none at e in absurd cc
    ]

spelled_length : (t : Litmus) (text : List ℕ) (order : List Entry) → length text < 2 ^ 64 → SpellsOrder t text order → length order < 2 ^ 64
spelled_length t text order small spells =
    let whole : length (lines_of text) ≡ length spells.before + length (order_lines t order ++ spells.after) =
    ap (λ (l : List (List ℕ)). length l) spells.lines ∙ length-append spells.before (order_lines t order ++ spells.after) in
    let last : length (order_lines t order ++ spells.after) ≡ length (order_lines t order) + length spells.after =
    length-append (order_lines t order) spells.after in
    let entries : length (map (printed_entry t) order ++ (printed_end (length order) ∷ []))
    ≡ length (map (printed_entry t) order) + 1 =
    length-append (map (printed_entry t) order) (printed_end (length order) ∷ []) in
    let count : length (map (printed_entry t) order) ≡ length order = length-map order (printed_entry t) in
    omega (arith, small, whole, last, entries, count, lines_of-length text)

pub spelled_from_read : (t : Litmus) (text : List ℕ) (order : List Entry) → length text < 2 ^ 64 → order_of t text ≡ Ok order → SpellsOrder t text order
spelled_from_read t text order small e = order_found t text order (order_length t text order small e) e

pub read_from_spelled : (t : Litmus) (text : List ℕ) (order : List Entry)
    → IsTest t
    → length text < 2 ^ 64
    → SpellsOrder t text order
    → order_of t text ≡ Ok order
read_from_spelled t text order test small spells = order_again t text order test (spelled_length t text order small spells) spells
