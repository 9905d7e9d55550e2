-- The line at the front.
use Rattle.litmus_reader.proofs.Vocabulary.{◌≡◌, ℕ, ◌+◌, ◌-◌, ◌≤◌, ltb, eqb, List, [], length, take, drop, Some, None, refl, sym, ◌∙◌, inl}
use Rattle.litmus_reader.proofs.Vocabulary.{inr, arith, position, position_or_len, before_first, after_first, ltb-false, take_all}
use Rattle.litmus_reader.proofs.Vocabulary.{length-drop, nil_from_length, first_line}
use Rattle.litmus_tokens.proofs.Gaps.{chosen}

pub line_cut : (bytes : List ℕ) (n : ℕ)
    → Some n ≡ position (λ b. eqb b 10) bytes
    → first_line bytes ≡ (take n bytes, take (length bytes - (n + 1)) (drop (n + 1) bytes))
unfolding first_line
line_cut bytes n at =
    elim (chosen (ltb (position_or_len (λ b. eqb b 10) bytes) (length bytes)) (Some (position_or_len (λ b. eqb b 10) bytes)) None (Some n) (sym at)) [
      | inl hit ↦
          let here : position_or_len (λ b. eqb b 10) bytes ≡ n = cc in
          let all : take (length bytes - (n + 1)) (drop (n + 1) bytes) ≡ drop (n + 1) bytes =
          take_all _ (drop (n + 1) bytes) (omega (arith, length-drop (n + 1) bytes)) in
          rw (all, here) refl
      | inr miss ↦ absurd cc
    ]

pub line_last : (bytes : List ℕ)
    → None ≡ position (λ b. eqb b 10) bytes
    → first_line bytes ≡ (bytes, take (length bytes - length bytes) (drop (length bytes) bytes))
unfolding first_line
line_last bytes at =
    elim (chosen (ltb (position_or_len (λ b. eqb b 10) bytes) (length bytes)) (Some (position_or_len (λ b. eqb b 10) bytes)) None None (sym at)) [
      | inl hit ↦ absurd cc
      | inr miss ↦
          let past : length bytes ≤ position_or_len (λ b. eqb b 10) bytes = ltb-false _ _ miss.0 in
          let front : before_first (λ b. eqb b 10) bytes ≡ bytes = take_all _ bytes past in
          let back : after_first (λ b. eqb b 10) bytes ≡ [] =
          nil_from_length _ (omega (arith, length-drop (position_or_len (λ b. eqb b 10) bytes + 1) bytes)) in
          let none : take (length bytes - length bytes) (drop (length bytes) bytes) ≡ [] =
          take_all _ _ (omega (arith, length-drop (length bytes) bytes))
          ∙ nil_from_length _ (omega (arith, length-drop (length bytes) bytes)) in
          rw (front, back, none) refl
    ]
