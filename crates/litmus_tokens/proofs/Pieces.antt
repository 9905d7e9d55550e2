-- All tokens, one after the other.
use Rattle.std.proofs.Common.{◌≡◌, ℕ, zero, suc, ◌≤◌, ◌<◌, true, List, [], ◌∷◌, ◌++◌, length, Ok, Err, refl, sym, ap, ◌∙◌, append_assoc, arith}
use Rattle.std.proofs.lemmas.List.{append-nil}
use Rattle.litmus_tokens.specs.declared.token.Stop.{Stop}
use Rattle.litmus_tokens.specs.declared.token.Stop.TheVariants.{End}
use Rattle.std.proofs.lemmas.Bool.Decides.{nat_tests}
use Rattle.litmus_tokens.specs.declared.instructions.Instructions.{Instructions}
use Rattle.litmus_tokens.specs.Gap.{gap_end}
use Rattle.litmus_tokens.specs.Terms.{term_at}
use Rattle.tso_terms.specs.Names.{begins_name, continues_name}
use Rattle.litmus_tokens.specs.Pieces.{Piece, piece_at, pieces_within, pieces_of}

abbrev pub before : List Piece → List Piece × Stop → List Piece × Stop
before front more = (front ++ more.0, more.1)

-- the total is what is there, and then what the rest gives, in some number of steps that is enough
abbrev pub goes_on : Instructions → List Piece → List ℕ → List Piece × Stop → Type 0
goes_on set front rest total = (n : ℕ) × (length rest ≤ n) × (before front (pieces_within set n rest) ≡ total)

pub goes_on_start : (set : Instructions) (bytes : List ℕ) → goes_on set [] bytes (pieces_of set bytes)
unfolding pieces_of
goes_on_start set bytes = (length bytes, omega arith, refl)

nothing_there : (set : Instructions) (rest : List ℕ) → length rest ≤ 0 → piece_at set rest ≡ Err End
unfolding piece_at gap_end term_at
nothing_there set [] le = refl
nothing_there set (b ∷ bs) le = absurd (omega arith)

pub begins_in_name : (b : ℕ) → begins_name b ≡ true → continues_name b ≡ true
begins_in_name b first = grind (arith, nat_tests)

pub goes_on_step : (set : Instructions) (front : List Piece) (rest after : List ℕ) (p : Piece)
    (total : List Piece × Stop)
    → Ok (p, after) ≡ piece_at set rest
    → length after < length rest
    → goes_on set front rest total
    → goes_on set (front ++ p ∷ []) after total
unfolding pieces_within
goes_on_step set front rest after p total read shorter (zero, enough, same) = absurd (omega arith)
goes_on_step set front rest after p total read shorter (suc n, enough, same) = (
  n,
  omega arith,
  ap (λ (l : List Piece). (l, (pieces_within set n after).1)) (append_assoc front (p ∷ []) (pieces_within set n after).0)
      ∙ rw (← read, pieces_within) at same,
)

pub goes_on_to_stop : (set : Instructions) (front : List Piece) (rest : List ℕ) (stop : Stop)
    (total : List Piece × Stop)
    → Err stop ≡ piece_at set rest
    → goes_on set front rest total
    → (front, stop) ≡ total
unfolding pieces_within
goes_on_to_stop set front rest stop total read (zero, enough, same) =
    let none : piece_at set rest ≡ Err End = nothing_there set rest enough in
    let at_end : stop ≡ End = cc in
    rw at_end (ap (λ (l : List Piece). (l, End)) (sym (append-nil front)) ∙ same)
goes_on_to_stop set front rest stop total read (suc n, enough, same) =
    ap (λ (l : List Piece). (l, stop)) (sym (append-nil front)) ∙ rw (← read, pieces_within) at same
