-- The fault of a text that spells no order: it is the one that reading meets first.
use Rattle.order_builder.proofs.Vocabulary.{◌≡◌, ◌≢◌, ℕ, suc, ◌+◌, false, eqb, inl, inr, List, [], ◌∷◌, ◌++◌, length, map, Some, None}
use Rattle.order_builder.proofs.Vocabulary.{Result, Ok, Err, refl, ap, subst, ◌∙◌, arith, codes, eqb-false, nat_tests, All-cons, All-nil}
use Rattle.order_builder.proofs.Vocabulary.{Litmus, IsTest, Entry, lines_of, decimal_value, printed_entry, IsEntryFor, IsOrderFor}
use Rattle.order_builder.proofs.Vocabulary.{BeginsOrder, IsNoEntry, IsNoEnd, HasNoCount, HasFault, entries_in, entry_in, end_in}
use Rattle.order_builder.proofs.Vocabulary.{order_start, order_of, OrderFault, NoOrder, BadLine, BadCount, NoMemory}
use Rattle.order_builder.proofs.Choosing.{chosen}
use Rattle.order_builder.proofs.EntryLaws.{entry_again, entry_found, end_again, end_found}
use Rattle.order_builder.proofs.SpellingLaws.{start_again, none_again, StartsAt, start_found, none_found, after_entries, entries_again}
use Rattle.order_builder.proofs.SpellingLaws.{after-Err, onto-Err, two_ways}

-- ---- faults

pub record BadLineAfter (t : Litmus) (start count : ℕ) (lines : List (List ℕ)) (number : ℕ) : Type 0 where
  pub order : List Entry
  pub line : List ℕ
  pub after : List (List ℕ)
  pub whole : lines ≡ map (printed_entry t) order ++ (line ∷ after)
  pub entries : IsOrderFor t order
  pub no_entry : IsNoEntry t line
  pub no_end : IsNoEnd line
  pub numbered : number ≡ start + (count + length order) + 1

pub record BadCountAfter (t : Litmus) (count : ℕ) (lines : List (List ℕ)) : Type 0 where
  pub order : List Entry
  pub rest : List (List ℕ)
  pub whole : lines ≡ map (printed_entry t) order ++ rest
  pub entries : IsOrderFor t order
  pub no_count : HasNoCount (count + length order) rest

abbrev pub FaultAfter : Litmus → ℕ → ℕ → List (List ℕ) → OrderFault → Type 0
FaultAfter t start count lines NoOrder = ⊥
FaultAfter t start count lines (BadLine number) = BadLineAfter t start count lines number
FaultAfter t start count lines BadCount = BadCountAfter t count lines
FaultAfter t start count lines NoMemory = ⊥

fault_further : (t : Litmus) (start count : ℕ) (line : List ℕ) (lines : List (List ℕ)) (e : Entry) (fault : OrderFault)
    → IsEntryFor t e
    → line ≡ printed_entry t e
    → FaultAfter t start (count + 1) lines fault → FaultAfter t start count (line ∷ lines) fault
fault_further t start count line lines e NoOrder is line-is more = more
fault_further t start count line lines e (BadLine number) is line-is more = record {
  order = e ∷ more.order;
  line = more.line;
  after = more.after;
  whole = rw (line-is, more.whole) refl;
  entries = All-cons (IsEntryFor t) e more.order is more.entries;
  no_entry = more.no_entry;
  no_end = more.no_end;
  numbered = let numbered : number ≡ start + (count + 1 + length more.order) + 1 = more.numbered in omega (arith, numbered);
}
fault_further t start count line lines e BadCount is line-is more =
    let place : count + 1 + length more.order ≡ count + suc (length more.order) = omega arith in
    record {
      order = e ∷ more.order;
      rest = more.rest;
      whole = rw (line-is, more.whole) refl;
      entries = All-cons (IsEntryFor t) e more.order is more.entries;
      no_count = subst (λ (k : ℕ). HasNoCount k more.rest) place more.no_count;
    }
fault_further t start count line lines e NoMemory is line-is more = more

not_entry : (t : Litmus) (line : List ℕ) → IsTest t → entry_in t line ≡ None → IsNoEntry t line
not_entry t line test none e is same =
    let read : entry_in t line ≡ Some e = rw same (entry_again t e test is) in
    cc

not_end : (line : List ℕ) → end_in line ≡ None → IsNoEnd line
not_end line none digits is same =
    let read : end_in line ≡ Some digits = rw same (end_again digits is) in
    cc

same_fault : (a b : OrderFault) → (let read : Result (List Entry) OrderFault = Err a in read) ≡ Err b → a ≡ b
same_fault a b e = cc

fault_found : (t : Litmus) (start count : ℕ) (lines : List (List ℕ)) (fault : OrderFault)
    → IsTest t
    → entries_in t start count lines ≡ Err fault
    → FaultAfter t start count lines fault
unfolding entries_in
fault_found t start count [] fault test e =
    subst (FaultAfter t start count []) (same_fault BadCount fault e) (record {
      order = [];
      rest = [];
      whole = refl;
      entries = All-nil (IsEntryFor t);
      no_count = tt;
    })
fault_found t start count (line ∷ lines) fault test e =
    elim (two_ways (end_in line)) [
      | inl end ↦
          elim (chosen (eqb (decimal_value end.0) count) (Ok []) (Err BadCount) (Err fault) (rw end.1 at e)) [
            | inl hit ↦ absurd cc
            | inr miss ↦
                let is = end_found line end.0 end.1 in
                let apart : decimal_value end.0 ≢ count = eqb-false _ _ miss.0 in
                let other : decimal_value end.0 ≢ count + 0 = omega (arith, apart) in
                subst (FaultAfter t start count (line ∷ lines)) (same_fault BadCount fault miss.1)
                (record { order = []; rest = line ∷ lines; whole = refl; entries = All-nil (IsEntryFor t); no_count = (end.0, is.1, is.0, other) })
          ]
      | inr no_end ↦ elim (two_ways (entry_in t line)) [
        | inl entry ↦
            let is = entry_found t line entry.0 entry.1 in
            let rest : entries_in t start (count + 1) lines ≡ Err fault =
            onto-Err entry.0 (entries_in t start (count + 1) lines) fault (rw (no_end, entry.1) at e) in
            fault_further t start count line lines entry.0 fault is.0 is.1 (fault_found t start (count + 1) lines fault test rest)
        | inr no_entry ↦
            let bad : Err (BadLine (start + count + 1)) ≡ Err fault = rw (no_end, no_entry) at e in
            subst (FaultAfter t start count (line ∷ lines)) (same_fault (BadLine (start + count + 1)) fault bad)
            (record {
              order = [];
              line = line;
              after = lines;
              whole = refl;
              entries = All-nil (IsEntryFor t);
              no_entry = not_entry t line test no_entry;
              no_end = not_end line no_end;
              numbered = omega arith;
            })
      ]
    ]

fault_after : (t : Litmus) (text : List ℕ) (start : ℕ × List (List ℕ)) (fault : OrderFault)
    → StartsAt (lines_of text) 0 start
    → FaultAfter t start.0 0 start.1 fault
    → HasFault t text fault
fault_after t text start NoOrder at more = absurd more
fault_after t text start (BadLine number) at more = record {
  before = at.before;
  order = more.order;
  line = more.line;
  after = more.after;
  begins = record { lines = at.whole ∙ ap (λ (l : List (List ℕ)). at.before ++ (codes "Order" ∷ l)) more.whole; first = at.others; entries = more.entries };
  no_entry = more.no_entry;
  no_end = more.no_end;
  numbered =
      let numbered : number ≡ start.0 + (0 + length more.order) + 1 = more.numbered in
      let first : start.0 ≡ 0 + length at.before + 1 = at.number in
      omega (arith, numbered, first);
}
fault_after t text start BadCount at more =
    let count : 0 + length more.order ≡ length more.order = omega arith in
    record {
      before = at.before;
      order = more.order;
      rest = more.rest;
      begins = record { lines = at.whole ∙ ap (λ (l : List (List ℕ)). at.before ++ (codes "Order" ∷ l)) more.whole; first = at.others; entries = more.entries };
      no_count = subst (λ (k : ℕ). HasNoCount k more.rest) count more.no_count;
    }
fault_after t text start NoMemory at more = absurd more

pub order_fault_found : (t : Litmus) (text : List ℕ) (fault : OrderFault) → IsTest t → order_of t text ≡ Err fault → HasFault t text fault
unfolding order_of
order_fault_found t text fault test e =
    elim (two_ways (order_start 0 (lines_of text))) [
      | inl start ↦
          fault_after t text start.0 fault (start_found (lines_of text) 0 start.0 start.1)
          (fault_found t start.0.0 0 start.0.1 fault test (rw start.1 at e))
      | inr none ↦
          let bad : Err NoOrder ≡ Err fault = rw none at e in
          subst (HasFault t text) (same_fault NoOrder fault bad) (none_found (lines_of text) 0 none)
    ]

-- ---- the fault again

begun : (t : Litmus) (text : List ℕ) (before : List (List ℕ)) (order : List Entry) (rest : List (List ℕ)) → IsTest t → BeginsOrder t text before order rest
    → order_of t text ≡ after_entries order (entries_in t (length before + 1) (length order) rest)
unfolding order_of
begun t text before order rest test begins =
    let starts = start_again before 0 (map (printed_entry t) order ++ rest) begins.first in
    let start : 0 + length before + 1 ≡ length before + 1 = omega arith in
    let count : 0 + length order ≡ length order = omega arith in
    rw (begins.lines, starts)
    (entries_again t (0 + length before + 1) 0 order rest test begins.entries
    ∙ ap (λ (k : ℕ). after_entries order (entries_in t k (0 + length order) rest)) start
    ∙ ap (λ (k : ℕ). after_entries order (entries_in t (length before + 1) k rest)) count)

no_entry_read : (t : Litmus) (line : List ℕ) → IsNoEntry t line → entry_in t line ≡ None
no_entry_read t line none =
    elim (two_ways (entry_in t line)) [
      | inl entry ↦ let is = entry_found t line entry.0 entry.1 in absurd (none entry.0 is.0 is.1)
      | inr read ↦ read
    ]

no_end_read : (line : List ℕ) → IsNoEnd line → end_in line ≡ None
no_end_read line none =
    elim (two_ways (end_in line)) [
      | inl end ↦ let is = end_found line end.0 end.1 in absurd (none end.0 is.1 is.0)
      | inr read ↦ read
    ]

bad_line_read : (t : Litmus) (start count : ℕ) (line : List ℕ) (after : List (List ℕ))
    → IsNoEntry t line
    → IsNoEnd line
    → entries_in t start count (line ∷ after) ≡ Err (BadLine (start + count + 1))
unfolding entries_in
bad_line_read t start count line after no_entry no_end = rw (no_end_read line no_end, no_entry_read t line no_entry) refl

bad_count_read : (t : Litmus) (start count : ℕ) (rest : List (List ℕ)) → HasNoCount count rest → entries_in t start count rest ≡ Err BadCount
unfolding entries_in
bad_count_read t start count [] bad = refl
bad_count_read t start count (line ∷ lines) bad =
    let end : end_in line ≡ Some bad.0 = rw bad.2 (end_again bad.0 bad.1) in
    let apart : decimal_value bad.0 ≢ count = bad.3 in
    let other : eqb (decimal_value bad.0) count ≡ false = grind (arith, nat_tests) in
    rw (end, other) refl

pub order_fault_again : (t : Litmus) (text : List ℕ) (fault : OrderFault) → IsTest t → HasFault t text fault → order_of t text ≡ Err fault
unfolding order_of
order_fault_again t text NoOrder test has = rw (none_again (lines_of text) 0 has) refl
order_fault_again t text (BadLine number) test has =
    let place : length has.before + 1 + length has.order + 1 ≡ number =
    let numbered : number ≡ length has.before + length has.order + 2 = has.numbered in
    omega (arith, numbered) in
    begun t text has.before has.order (has.line ∷ has.after) test has.begins
    ∙ ap (after_entries has.order) (bad_line_read t (length has.before + 1) (length has.order) has.line has.after has.no_entry has.no_end)
    ∙ after-Err has.order (BadLine (length has.before + 1 + length has.order + 1)) ∙ ap (λ (k : ℕ). Err (BadLine k)) place
order_fault_again t text BadCount test has =
    begun t text has.before has.order has.rest test has.begins
    ∙ ap (after_entries has.order) (bad_count_read t (length has.before + 1) (length has.order) has.rest has.no_count) ∙ after-Err has.order BadCount
order_fault_again t text NoMemory test has = absurd has
