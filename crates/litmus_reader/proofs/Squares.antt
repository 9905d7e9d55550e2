-- The next closing bracket, one byte after the other.
use Rattle.litmus_reader.proofs.Vocabulary.{sym, ◌≡◌, ℕ, suc, ◌<◌, false, eqb, List, [], ◌∷◌, length, None, Result, Ok, Err, refl, arith}
use Rattle.litmus_reader.proofs.Vocabulary.{gap_end, Unclosed, Fault, from_gap, square_within, square_end, fault}
use Rattle.litmus_reader.proofs.Loops.{After, ends, goes_on}

abbrev left : List ℕ → ℕ
left bytes = suc (length bytes)

abbrev steps : ℕ → ℕ → List ℕ → Result (List ℕ) Fault
steps remaining n bytes = square_within n remaining bytes

-- the total is what the rest gives
abbrev pub SquareAfter : ℕ → List ℕ → Result (List ℕ) Fault → Type 0
SquareAfter remaining bytes total = After left (steps remaining) bytes total

pub square_start : (remaining : ℕ) (bytes : List ℕ) → SquareAfter remaining bytes (square_end remaining bytes)
unfolding square_end
square_start remaining bytes = record { count = suc (length bytes); enough = omega arith; same = refl }

shown : (remaining : ℕ) (bytes : List ℕ) (r total : Result (List ℕ) Fault)
    → ((n : ℕ) → square_within (suc n) remaining bytes ≡ r)
    → SquareAfter remaining bytes total
    → r ≡ total
shown remaining bytes r total step s = sym (ends left (steps remaining) bytes r total (λ none. absurd (omega (arith, none))) step s)

pub square_here : (remaining b : ℕ) (bytes at rest : List ℕ) (total : Result (List ℕ) Fault)
    → Ok at ≡ from_gap (gap_end None bytes)
    → at ≡ b ∷ rest
    → b ≡ 93
    → SquareAfter remaining bytes total
    → Ok rest ≡ total
unfolding square_within
square_here remaining b bytes at rest total is first square s = shown remaining bytes (Ok rest) total (λ n. rw (← is, first, square) refl) s

pub square_further : (remaining b : ℕ) (bytes at rest : List ℕ) (total : Result (List ℕ) Fault)
    → Ok at ≡ from_gap (gap_end None bytes)
    → at ≡ b ∷ rest
    → eqb b 93 ≡ false
    → length rest < length bytes
    → SquareAfter remaining bytes total → SquareAfter remaining rest total
unfolding square_within
square_further remaining b bytes at rest total is first other shorter s =
    goes_on left (steps remaining) bytes rest total (omega (arith, shorter)) (λ n. rw (← is, first, other) refl) s

pub square_missing : (remaining : ℕ) (bytes at : List ℕ) (total : Result (List ℕ) Fault)
    → Ok at ≡ from_gap (gap_end None bytes)
    → at ≡ []
    → SquareAfter remaining bytes total
    → Err (fault Unclosed remaining) ≡ total
unfolding square_within
square_missing remaining bytes at total is none s = shown remaining bytes (Err (fault Unclosed remaining)) total (λ n. rw (← is, none) refl) s

pub square_gap_fails : (f : Fault) (remaining : ℕ) (bytes : List ℕ) (total : Result (List ℕ) Fault)
    → Err f ≡ from_gap (gap_end None bytes)
    → SquareAfter remaining bytes total
    → Err f ≡ total
unfolding square_within
square_gap_fails f remaining bytes total is s = shown remaining bytes (Err f) total (λ n. rw (← is) refl) s
