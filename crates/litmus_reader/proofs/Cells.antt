-- Cells of a row.
use Rattle.litmus_reader.proofs.Vocabulary.{◌≡◌, ℕ, Option, IfSome, Bor, ◌+◌, ◌-◌, ◌≤◌, ◌<◌, Bool, true, false, not, cond, suc, ltb, inl}
use Rattle.litmus_reader.proofs.Vocabulary.{inr, List, [], ◌∷◌, length, map, take, drop, Some, None, Result, Ok, Err, refl, sym, ap, ◌∙◌}
use Rattle.litmus_reader.proofs.Vocabulary.{arith, position, slice_split, position_or_len, onto_first, length-drop, length-map, take_all}
use Rattle.litmus_reader.proofs.Vocabulary.{ltb-true, slice_split_first, length-slice_split, Bar, Token, Piece, piece_of, pieces, is_symbol}
use Rattle.litmus_reader.proofs.Vocabulary.{Fault, ReadError, CoreInstr, Fails, cell_in, cells_in, cells_of, Instructions}
use Rattle.std.proofs.Common.{count_by}
use Rattle.litmus_tokens.specs.declared.fault.ReadError.TheVariants as errors
use Rattle.litmus_tokens.proofs.Gaps.{chosen}
use Rattle.litmus_tokens.proofs.Maps.{position_none}
use Rattle.litmus_reader.proofs.Maps.{slice_split-map}

abbrev pub Read : Type 0
Read = Result (List CoreInstr × List (List ℕ)) Fault

pub cells_go_on : (set : Instructions) (core : ℕ) (instrs after : List CoreInstr) (names known : List (List ℕ))
    (row cell : List Piece) (after_it : List (List Piece)) (total : Read)
    → cells_of row ≡ cell ∷ after_it → cell_in set core instrs names cell ≡ Ok (after, known)
    → cells_in set core instrs names (cells_of row) ≡ total → cells_in set (core + 1) after known after_it ≡ total
unfolding cells_in
cells_go_on set core instrs after names known row cell after_it total cut is so_far =
    let one : cells_in set core instrs names (cells_of row) ≡ cells_in set (core + 1) after known after_it = rw (cut, is) refl in
    sym one ∙ so_far

pub cells_end : (set : Instructions) (e : ReadError) (core : ℕ) (instrs : List CoreInstr) (names : List (List ℕ))
    (row cell : List Piece) (after_it : List (List Piece)) (total : Read)
    → cells_of row ≡ cell ∷ after_it → Fails e (cell_in set core instrs names cell) → cells_in set core instrs names (cells_of row) ≡ total → Fails e total
unfolding cells_in
cells_end set errors.NoMemory core instrs names row cell after_it total cut is so_far = tt
cells_end set (errors.Fault f) core instrs names row cell after_it total cut is so_far =
    let one : cells_in set core instrs names (cells_of row) ≡ Err f = rw (cut, is) refl in
    sym so_far ∙ one

pub cells_done : (set : Instructions) (core : ℕ) (instrs : List CoreInstr) (names : List (List ℕ)) (total : Read)
    → cells_in set core instrs names [] ≡ total
    → total ≡ Ok (instrs, names)
unfolding cells_in
cells_done set core instrs names total so_far = sym so_far

-- ---- where the first cell ends

cells_as : (row : List Token) → cells_of (pieces row) ≡ map pieces (slice_split (λ t. is_symbol Bar (piece_of t)) row)
cells_as row = slice_split-map (is_symbol Bar) piece_of row

pub first_cut : (row : List Token) (n : ℕ) → Some n ≡ position (λ t. is_symbol Bar (piece_of t)) row
    → cells_of (pieces row) ≡ pieces (take n row) ∷ cells_of (pieces (take (length row - (n + 1)) (drop (n + 1) row)))
first_cut [] n at = absurd cc
first_cut (t ∷ ts) n at =
    elim (chosen (ltb (position_or_len (λ t. is_symbol Bar (piece_of t)) (t ∷ ts)) (length (t ∷ ts)))
    (Some (position_or_len (λ t. is_symbol Bar (piece_of t)) (t ∷ ts))) None (Some n) (sym at)) [
      | inl hit ↦
          let here : position_or_len (λ t. is_symbol Bar (piece_of t)) (t ∷ ts) ≡ n = cc in
          let all : take (length (t ∷ ts) - (n + 1)) (drop (n + 1) (t ∷ ts)) ≡ drop (n + 1) (t ∷ ts) =
          take_all _ (drop (n + 1) (t ∷ ts)) (omega (arith, length-drop (n + 1) (t ∷ ts))) in
          let cut : slice_split (λ t. is_symbol Bar (piece_of t)) (t ∷ ts)
          ≡ take n (t ∷ ts) ∷ slice_split (λ t. is_symbol Bar (piece_of t)) (drop (n + 1) (t ∷ ts)) =
          rw (← here) (slice_split_first (λ t. is_symbol Bar (piece_of t)) (t ∷ ts) t (ltb-true _ _ hit.0)) in
          rw (cells_as (t ∷ ts), cut, all, cells_as (drop (n + 1) (t ∷ ts))) refl
      | inr miss ↦ absurd cc
    ]

one_part : (p : Token → Bool) (row : List Token) → length row ≡ position_or_len p row → slice_split p row ≡ row ∷ []
one_part p [] none = refl
one_part p (t ∷ ts) none = by_test (p t) none (one_part p ts)
  where
    by_test : (b : Bool) → suc (length ts) ≡ cond (not b) (1 + position_or_len p ts) 0 → (length ts ≡ position_or_len p ts → slice_split p ts ≡ ts ∷ [])
        → cond b ([] ∷ slice_split p ts) (onto_first t (slice_split p ts)) ≡ (t ∷ ts) ∷ []
    by_test true none others = absurd cc
    by_test false none others = ap (onto_first t) (others (omega (arith, none)))

pub no_cut : (row : List Token) → None ≡ position (λ t. is_symbol Bar (piece_of t)) row → cells_of (pieces row) ≡ pieces row ∷ []
no_cut row at = cells_as row ∙ ap (map pieces) (one_part (λ t. is_symbol Bar (piece_of t)) row (position_none (λ t. is_symbol Bar (piece_of t)) row at))

pub cells_counted : (row : List Token) (n : ℕ) → n ≡ count_by (λ t. is_symbol Bar (piece_of t)) row → n + 1 ≡ length (cells_of (pieces row))
cells_counted row n is =
    rw (
      cells_as row,
      length-map (slice_split (λ t. is_symbol Bar (piece_of t)) row) pieces,
      length-slice_split (λ t. is_symbol Bar (piece_of t)) row,
      is,
    )
    refl

-- one more than the tokens that are left, and none where no cell is
abbrev pub room_of : Option (Bor (List Token)) → ℕ
room_of None = 0
room_of (Some after_it) = length after_it.now + 1

pub less_room : (remaining : Option (Bor (List Token))) (n : ℕ) → IfSome remaining (λ after_it. length after_it.now < n) → room_of remaining ≤ n
less_room None n shorter = omega arith
less_room (Some after_it) n shorter = omega (arith, shorter)
