-- White space and comments, where they end.
use Rattle.litmus_reader.proofs.Vocabulary.{◌≡◌, ℕ, ◌≤◌, List, [], ◌∷◌, length, Option, Some, None, Result, Ok, Err, ap, inl, inr, arith}
use Rattle.litmus_reader.proofs.Vocabulary.{Stop, is_space, opens_comment, closes_comment, gap_end, from_gap}
use Rattle.litmus_reader.proofs.GrammarTokens.{chosen, ok_is}

same_rest : (x y : List ℕ) → (let r : Result (List ℕ) Stop = Ok x in r) ≡ Ok y → x ≡ y
same_rest x y e = cc

-- white space and comments only take bytes
pub gap_within : (opener : Option ℕ) (bytes at : List ℕ) → gap_end opener bytes ≡ Ok at → length at ≤ length bytes
unfolding gap_end
gap_within None [] at e = let same : [] ≡ at = same_rest _ _ e in rw (← same) (omega arith)
gap_within None (b ∷ []) at e =
    elim (chosen (is_space b) (Ok []) (Ok (b ∷ [])) (Ok at) e) [
      | inl hit ↦ let same : [] ≡ at = same_rest _ _ hit.1 in rw (← same) (omega arith)
      | inr miss ↦ let same : b ∷ [] ≡ at = same_rest _ _ miss.1 in rw (← same) (omega arith)
    ]
gap_within None (b ∷ c ∷ bs) at e =
    elim (chosen (is_space b) _ _ (Ok at) e) [
      | inl hit ↦ omega (arith, gap_within None (c ∷ bs) at hit.1)
      | inr miss ↦ elim (chosen (opens_comment b c) _ _ (Ok at) miss.1) [
        | inl opens ↦ omega (arith, gap_within (Some (length (b ∷ c ∷ bs))) bs at opens.1)
        | inr solid ↦ let same : b ∷ c ∷ bs ≡ at = same_rest _ _ solid.1 in rw (← same) (omega arith)
      ]
    ]
gap_within (Some opener) [] at e = absurd cc
gap_within (Some opener) (b ∷ []) at e = absurd cc
gap_within (Some opener) (b ∷ c ∷ bs) at e =
    elim (chosen (closes_comment b c) _ _ (Ok at) e) [
      | inl hit ↦ omega (arith, gap_within None bs at hit.1)
      | inr miss ↦ omega (arith, gap_within (Some opener) (c ∷ bs) at miss.1)
    ]

pub from_gap_ok : (r : Result (List ℕ) Stop) (at : List ℕ) → from_gap r ≡ Ok at → r ≡ Ok at
from_gap_ok (Ok x) at e = ap (λ (l : List ℕ). Ok l) (ok_is x at e)
from_gap_ok (Err stop) at e = absurd cc
