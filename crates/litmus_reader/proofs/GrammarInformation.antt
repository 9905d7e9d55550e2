-- Information lines are read where they are spelled.
use Rattle.litmus_reader.proofs.Vocabulary.{◌≡◌, ℕ, zero, suc, ◌<◌, Bool, true, false, cond, eqb, eqb-true, List, [], ◌∷◌, ◌++◌, length}
use Rattle.litmus_reader.proofs.Vocabulary.{drop, Some, None, Ok, refl, sym, ap, subst, ◌∙◌, inl, inr, arith, is_ascii_alphabetic, list_all}
use Rattle.litmus_reader.proofs.Vocabulary.{prefix_len, not-true, length-append, gap_end, from_gap, ◌>>=◌, quotation_end, information_end}
use Rattle.litmus_reader.proofs.Vocabulary.{begins_initial, braces_within, braces_at, first_line, is_quoted, IsInformation, quotation}
use Rattle.litmus_reader.proofs.Vocabulary.{key_line, AreInformationLines, none, continues_key, ◌||◌, key_value, key_line_end}
use Rattle.std.specs.Int.{is_in_range}
use Rattle.litmus_reader.specs.GrammarText.{more}
use Rattle.litmus_reader.proofs.GrammarTokens.{chosen, some_is, ok_is, bind_ok, or_fault_ok}
use Rattle.litmus_reader.proofs.GrammarGaps.{gap_within, from_gap_ok}
use Rattle.litmus_reader.proofs.GrammarRuns.{both, differs, Stops, run, run_after, line_within}

-- ---- quotations

record Quoted (bytes rest : List ℕ) : Type 0 where
  pub inside : List ℕ
  pub parts : bytes ≡ inside ++ 34 ∷ rest
  pub all : list_all is_quoted inside ≡ true

quotation_takes : (bytes rest : List ℕ) → quotation_end bytes ≡ Some rest → Quoted bytes rest
unfolding quotation_end
quotation_takes [] rest e = absurd cc
quotation_takes (b ∷ bs) rest e =
    elim (chosen (eqb b 34) (Some bs) (quotation_end bs) (Some rest) e) [
      | inl hit ↦
          let mark : b ≡ 34 = eqb-true _ _ hit.0 in
          let same : bs ≡ rest = some_is bs rest hit.1 in
          record { inside = []; parts = rw (mark, same) refl; all = refl }
      | inr miss ↦ let q = quotation_takes bs rest miss.1 in record { inside = b ∷ q.inside; parts = ap (λ (l : List ℕ). b ∷ l) q.parts; all = rw miss.0 q.all }
    ]

pub quotation_again : (inside after_it : List ℕ) → list_all is_quoted inside ≡ true → quotation_end (inside ++ 34 ∷ after_it) ≡ Some after_it
unfolding quotation_end
quotation_again [] after_it all = refl
quotation_again (b ∷ bs) after_it all =
    let parts = both (is_quoted b) (list_all is_quoted bs) all in
    rw (not-true (eqb b 34) parts.0) (quotation_again bs after_it parts.1)

-- ---- key lines

one_of : (digit upper lower w x y z : Bool) → (upper || lower) ≡ true → (((((digit || upper) || lower) || w) || x) || y || z) ≡ true
one_of true upper lower w x y z e = refl
one_of false true lower w x y z e = refl
one_of false false true w x y z e = refl
one_of false false false w x y z e = absurd cc

letter_continues : (b : ℕ) → is_ascii_alphabetic b ≡ true → continues_key b ≡ true
unfolding continues_key
letter_continues b e = one_of (is_in_range 48 57 b) (is_in_range 65 90 b) (is_in_range 97 122 b) (eqb b 95) (eqb b 45) (eqb b 32) (eqb b 9) e

equals_ends : continues_key 61 ≡ false
unfolding continues_key
equals_ends = refl

value_taken : (remaining b : ℕ) (key back after_it : List ℕ)
    → is_ascii_alphabetic b ≡ true
    → list_all continues_key key ≡ true
    → key_value remaining back ≡ Ok after_it
    → IsInformation (b ∷ key ++ back) after_it
value_taken remaining b key [] after_it letter all e = absurd cc
value_taken remaining b key (c ∷ cs) after_it letter all e =
    elim (chosen (eqb c 61) (Ok (first_line cs).1) _ (Ok after_it) e) [
      | inl hit ↦
          let equals : c ≡ 61 = eqb-true _ _ hit.0 in
          let same : (first_line cs).1 ≡ after_it = ok_is _ after_it hit.1 in
          rw equals (subst (IsInformation (b ∷ key ++ 61 ∷ cs)) same (key_line b key cs letter all))
      | inr miss ↦ absurd cc
    ]

key_after : (b : ℕ) (key back : List ℕ) → is_ascii_alphabetic b ≡ true → list_all continues_key key ≡ true → Stops continues_key back
    → drop (prefix_len continues_key (b ∷ key ++ back)) (b ∷ key ++ back) ≡ back
key_after b key back letter all stops = run_after continues_key (b ∷ key) back (rw (letter_continues b letter) all) stops

key_line_takes : (b : ℕ) (bs after_it : List ℕ) → is_ascii_alphabetic b ≡ true → key_line_end (b ∷ bs) ≡ Ok after_it → IsInformation (b ∷ bs) after_it
key_line_takes b bs after_it letter e =
    let r = run continues_key bs in
    let there : drop (prefix_len continues_key (b ∷ bs)) (b ∷ bs) ≡ r.back =
    ap (λ (l : List ℕ). drop (prefix_len continues_key (b ∷ l)) (b ∷ l)) r.parts
    ∙ key_after b r.front r.back letter r.passes r.stops in
    subst (λ (l : List ℕ). IsInformation (b ∷ l) after_it) (sym r.parts)
    (value_taken (length (b ∷ bs)) b r.front r.back after_it letter r.passes (sym (ap (key_value (length (b ∷ bs))) there) ∙ e))

-- ---- one

pub information_takes : (at after_it : List ℕ) → information_end at ≡ Ok after_it → IsInformation at after_it
unfolding information_end
information_takes [] after_it e = absurd cc
information_takes (b ∷ bs) after_it e =
    elim (chosen (eqb b 34) _ _ (Ok after_it) e) [
      | inl hit ↦
          let mark : b ≡ 34 = eqb-true _ _ hit.0 in
          let q = quotation_takes bs after_it (or_fault_ok (quotation_end bs) _ after_it hit.1) in
          rw (mark, q.parts) (quotation q.inside after_it q.all)
      | inr miss ↦ elim (chosen (is_ascii_alphabetic b) _ _ (Ok after_it) miss.1) [
        | inl letter ↦ key_line_takes b bs after_it letter.0 letter.1
        | inr other ↦ absurd cc
      ]
    ]

pub information_again : (at after_it : List ℕ) → IsInformation at after_it → information_end at ≡ Ok after_it
unfolding information_end
information_again _ _ (quotation inside after_it all) = rw (quotation_again inside after_it all) refl
information_again _ _ (key_line letter key rest is all) =
    let found : key_line_end (letter ∷ key ++ 61 ∷ rest) ≡ Ok (first_line rest).1 =
    ap (key_value (length (letter ∷ key ++ 61 ∷ rest))) (key_after letter key (61 ∷ rest) is all equals_ends) in
    rw (differs is_ascii_alphabetic letter 34 refl is, is) found

pub information_shorter : (at after_it : List ℕ) → IsInformation at after_it → length after_it < length at
information_shorter _ _ (quotation inside after_it all) = omega (arith, length-append inside (34 ∷ after_it))
information_shorter _ _ (key_line letter key rest is all) = omega (arith, length-append key (61 ∷ rest), line_within rest)

-- ---- all

opened : (bytes at : List ℕ) → gap_end None bytes ≡ Ok at → begins_initial at ≡ true → AreInformationLines bytes at
unfolding begins_initial
opened bytes [] gap h = absurd cc
opened bytes (b ∷ bs) gap h =
    let curly : b ≡ 123 = eqb-true _ _ h in
    rw curly (none bytes bs (rw curly at gap))

by_place : (n : ℕ) (bytes braces at : List ℕ)
    → ((rest : List ℕ) → braces_within n rest ≡ Ok braces → AreInformationLines rest braces)
    → gap_end None bytes ≡ Ok at
    → cond (begins_initial at) (Ok at) (information_end at >>= λ rest. braces_within n rest) ≡ Ok braces → AreInformationLines bytes braces
by_place n bytes braces at later gap e =
    elim (chosen (begins_initial at) (Ok at) _ (Ok braces) e) [
      | inl hit ↦ subst (AreInformationLines bytes) (ok_is at braces hit.1) (opened bytes at gap hit.0)
      | inr miss ↦
          let l = bind_ok (information_end at) _ braces miss.1 in
          more bytes at l.0 braces gap (information_takes at l.0 l.1) (later l.0 l.2)
    ]

within_takes : (n : ℕ) (bytes braces : List ℕ) → braces_within n bytes ≡ Ok braces → AreInformationLines bytes braces
unfolding braces_within
within_takes zero bytes braces e = absurd cc
within_takes (suc n) bytes braces e =
    let a = bind_ok (from_gap (gap_end None bytes)) _ braces e in
    by_place n bytes braces a.0 (λ rest h. within_takes n rest braces h) (from_gap_ok _ a.0 a.1) a.2

pub lines_take : (bytes braces : List ℕ) → braces_at bytes ≡ Ok braces → AreInformationLines bytes braces
unfolding braces_at
lines_take bytes braces e = within_takes (suc (length bytes)) bytes braces e

-- what begins an information line doesn't begin the initial state
pub no_braces : (at after_it : List ℕ) → IsInformation at after_it → begins_initial at ≡ false
unfolding begins_initial
no_braces _ _ (quotation inside after_it all) = refl
no_braces _ _ (key_line letter key rest is all) = differs is_ascii_alphabetic letter 123 refl is

within_again : (bytes braces : List ℕ) → AreInformationLines bytes braces → (n : ℕ) → length bytes < n → braces_within n bytes ≡ Ok braces
unfolding braces_within begins_initial
within_again bytes braces are zero enough = absurd (omega arith)
within_again _ _ (none bytes rest gap) (suc n) enough = rw gap refl
within_again _ _ (more bytes at after_it braces gap is are) (suc n) enough =
    rw (gap, no_braces at after_it is, information_again at after_it is)
    (within_again after_it braces are n (omega (arith, gap_within None bytes at gap, information_shorter at after_it is, enough)))

pub lines_again : (bytes braces : List ℕ) → AreInformationLines bytes braces → braces_at bytes ≡ Ok braces
unfolding braces_at
lines_again bytes braces are = within_again bytes braces are (suc (length bytes)) (omega arith)
