-- The end of brackets is found where it is spelled.
use Rattle.litmus_reader.proofs.Vocabulary.{◌≡◌, ℕ, zero, suc, ◌<◌, eqb, eqb-true, List, [], ◌∷◌, length, None, Ok, refl, inl, inr, arith}
use Rattle.litmus_reader.proofs.Vocabulary.{gap_end, from_gap, square_by, square_within, square_end, ClosesBrackets, here, further}
use Rattle.litmus_reader.proofs.GrammarTokens.{chosen, ok_is, bind_ok}
use Rattle.litmus_reader.proofs.GrammarGaps.{gap_within, from_gap_ok}

-- ---- taken

by_first : (n remaining : ℕ) (bytes rest : List ℕ)
    → ((bs : List ℕ) → square_within n remaining bs ≡ Ok rest → ClosesBrackets bs rest)
    → (at : List ℕ) → gap_end None bytes ≡ Ok at
    → square_by (square_within n remaining) remaining at ≡ Ok rest → ClosesBrackets bytes rest
by_first n remaining bytes rest later [] gap e = absurd cc
by_first n remaining bytes rest later (b ∷ bs) gap e =
    elim (chosen (eqb b 93) (Ok bs) (square_within n remaining bs) (Ok rest) e) [
      | inl hit ↦
          let square : b ≡ 93 = eqb-true _ _ hit.0 in
          let same : bs ≡ rest = ok_is bs rest hit.1 in
          here bytes rest (rw (square, same) at gap)
      | inr miss ↦ further bytes b bs rest gap miss.0 (later bs miss.1)
    ]

square_takes : (n remaining : ℕ) (bytes rest : List ℕ) → square_within n remaining bytes ≡ Ok rest → ClosesBrackets bytes rest
unfolding square_within
square_takes zero remaining bytes rest e = absurd cc
square_takes (suc n) remaining bytes rest e =
    let a = bind_ok (from_gap (gap_end None bytes)) _ rest e in
    by_first n remaining bytes rest (λ bs h. square_takes n remaining bs rest h) a.0 (from_gap_ok _ a.0 a.1) a.2

pub brackets_take : (remaining : ℕ) (bytes rest : List ℕ) → square_end remaining bytes ≡ Ok rest → ClosesBrackets bytes rest
unfolding square_end
brackets_take remaining bytes rest e = square_takes (suc (length bytes)) remaining bytes rest e

-- ---- again

square_again : (bytes rest : List ℕ) → ClosesBrackets bytes rest → (n remaining : ℕ) → length bytes < n → square_within n remaining bytes ≡ Ok rest
unfolding square_within
square_again bytes rest is zero remaining enough = absurd (omega arith)
square_again _ _ (here bytes rest gap) (suc n) remaining enough = rw gap refl
square_again _ _ (further bytes b bs rest gap other is) (suc n) remaining enough =
    rw (gap, other) (square_again bs rest is n remaining (omega (arith, gap_within None bytes (b ∷ bs) gap, enough)))

pub brackets_again : (remaining : ℕ) (bytes rest : List ℕ) → ClosesBrackets bytes rest → square_end remaining bytes ≡ Ok rest
unfolding square_end
brackets_again remaining bytes rest is = square_again bytes rest is (suc (length bytes)) remaining (omega arith)
