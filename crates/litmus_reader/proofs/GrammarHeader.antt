-- A header line is read where it is spelled.
use Rattle.litmus_reader.proofs.Vocabulary.{◌≡◌, ℕ, true, ◌&&◌, List, length, nat_lt, Option, Some, None, Ok, refl, sym, ap, subst, ◌∙◌}
use Rattle.litmus_reader.proofs.Vocabulary.{inl, inr, list_all, is_test_name, is_printable, gap_end, from_gap, header_at, first_line}
use Rattle.litmus_reader.proofs.Vocabulary.{IsHeaderLine, name_in}
use Rattle.litmus_reader.specs.Header.{judged}
use Rattle.litmus_reader.proofs.GrammarTokens.{chosen, ok_is, ok_pair, bind_ok}
use Rattle.litmus_reader.proofs.GrammarGaps.{from_gap_ok}

-- ---- the line

record Judged (o : Option (List ℕ)) (name : List ℕ) : Type 0 where
  pub is : o ≡ Some name
  pub good : is_test_name name ≡ true

judged_takes : (remaining : ℕ) (o : Option (List ℕ)) (name : List ℕ) → judged remaining o ≡ Ok name → Judged o name
unfolding judged
judged_takes remaining None name e = absurd cc
judged_takes remaining (Some x) name e =
    elim (chosen (is_test_name x) (Ok x) _ (Ok name) e) [
      | inl hit ↦ let same : x ≡ name = ok_is x name hit.1 in record { is = ap (λ (l : List ℕ). Some l) same; good = rw same at hit.0 }
      | inr miss ↦ elim (chosen (nat_lt 64 (length x) && list_all is_printable x) _ _ (Ok name) miss.1) [
        | inl long ↦ let never = long.1 in absurd cc
        | inr bad ↦ let never = bad.1 in absurd cc
      ]
    ]

judged_again : (remaining : ℕ) (name : List ℕ) → is_test_name name ≡ true → judged remaining (Some name) ≡ Ok name
unfolding judged
judged_again remaining name e = rw e refl

pub header_takes : (text name after_it : List ℕ) → header_at text ≡ Ok (name, after_it) → IsHeaderLine text name after_it
unfolding header_at
header_takes text name after_it e =
    let a = bind_ok (from_gap (gap_end None text)) _ (name, after_it) e in
    let b = bind_ok (judged (length a.0) (name_in (first_line a.0).0)) _ (name, after_it) a.2 in
    let same = ok_pair b.0 name (first_line a.0).1 after_it b.2 in
    let j = judged_takes (length a.0) (name_in (first_line a.0).0) b.0 b.1 in
    record {
      at = a.0;
      gap = from_gap_ok _ a.0 a.1;
      names = j.is ∙ ap (λ (l : List ℕ). Some l) same.0;
      good = subst (λ (l : List ℕ). is_test_name l ≡ true) same.0 j.good;
      rest = sym same.1;
    }

pub header_again : (text name after_it : List ℕ) → IsHeaderLine text name after_it → header_at text ≡ Ok (name, after_it)
unfolding header_at
header_again text name after_it is = rw (is.gap, is.names, judged_again (length is.at) name is.good, is.rest) refl
