-- All tokens of a text: those from a place on are those of the bytes that are there.
use Rattle.litmus_reader.proofs.Vocabulary.{◌≡◌, ℕ, zero, suc, ◌≤◌, ◌<◌, List, [], ◌∷◌, length, None, Result, Ok, Err, refl, sym, ap, ◌∙◌}
use Rattle.litmus_reader.proofs.Vocabulary.{arith, Stop, End, gap_end, Term, term_at, Piece, piece_at, onto, pieces_within, pieces_of, Bool}
use Rattle.litmus_reader.proofs.Vocabulary.{true, ltb, ltb-true, and_parts, list_all, inl, inr, drop, prefix_len, length-drop, Option, Some}
use Rattle.litmus_reader.proofs.Vocabulary.{Symbol, symbol, spelling_of, symbol_among, symbols, starts_with, nat_eq, is_ascii_digit}
use Rattle.litmus_reader.proofs.Vocabulary.{begins_name, continues_name, longest_name, run_of, symbol_or_bad, symbol_of, ◌+◌, Instructions}
use Rattle.litmus_reader.proofs.Vocabulary.{is_hexadecimal, is_minus, Minus}
use Rattle.std.specs.Char.{is_ascii_hexdigit}
use Rattle.litmus_tokens.proofs.Pieces.{begins_in_name}
use Rattle.litmus_reader.proofs.GrammarTokens.{chosen, some_is}
use Rattle.litmus_reader.proofs.GrammarGaps.{gap_within}

-- ---- one token takes a byte or more

ok_same : {A : Type 0} (x y : A) → (let a : Result A Stop = Ok x in a) ≡ Ok y → x ≡ y
ok_same x y e = cc

ok_both : {A B : Type 0} (a c : A) (b d : B) → (let p : Result (A × B) Stop = Ok (a, b) in p) ≡ Ok (c, d) → (a ≡ c) × (b ≡ d)
ok_both {A} {B} a c b d e = let same = ok_same (a, b) (c, d) e in (ap (λ (q : A × B). q.0) same, ap (λ (q : A × B). q.1) same)

run_shorter : (p : ℕ → Bool) (b : ℕ) (bs after : List ℕ) → p b ≡ true → drop (prefix_len p (b ∷ bs)) (b ∷ bs) ≡ after → length after < length (b ∷ bs)
run_shorter p b bs after pass is =
    let n : prefix_len p (b ∷ bs) ≡ 1 + prefix_len p bs = rw pass refl in
    omega (arith, ap (λ (l : List ℕ). length l) is, length-drop (prefix_len p (b ∷ bs)) (b ∷ bs), n)

symbol_shorter : (ss : List Symbol) (bytes : List ℕ) (found : Symbol × List ℕ)
    → list_all (λ s. ltb 0 (length (spelling_of s))) ss ≡ true
    → symbol_among ss bytes ≡ Some found
    → 0 < length bytes
    → length found.1 < length bytes
symbol_shorter [] bytes found all e some = absurd cc
symbol_shorter (x ∷ others) bytes found all e some =
    let long = and_parts (ltb 0 (length (spelling_of x))) (list_all (λ s. ltb 0 (length (spelling_of s))) others) all in
    elim (chosen (starts_with nat_eq bytes (spelling_of x)) (Some (x, drop (length (spelling_of x)) bytes)) (symbol_among others bytes) (Some found) e) [
      | inl hit ↦
          let same = some_is (x, drop (length (spelling_of x)) bytes) found hit.1 in
          omega (arith, ap (λ (f : Symbol × List ℕ). length f.1) same, length-drop (length (spelling_of x)) bytes, ltb-true _ _ long.0, some)
      | inr miss ↦ symbol_shorter others bytes found long.1 miss.1 some
    ]

term_shorter : (set : Instructions) (bytes : List ℕ) (t : Term) (after : List ℕ) → term_at set bytes ≡ Ok (t, after) → length after < length bytes
unfolding term_at symbol_of symbols
term_shorter set [] t after e = absurd cc
term_shorter set (b ∷ bs) t after e =
    elim (chosen (is_ascii_digit b) _ _ (Ok (t, after)) e) [
      | inl digit ↦ elim (chosen (is_hexadecimal set (b ∷ bs)) _ _ (Ok (t, after)) digit.1) [
        | inl sixteen ↦
            let rest = (ok_both _ t _ after sixteen.1).1 in
            omega (
              arith,
              ap (λ (l : List ℕ). length l) rest,
              length-drop (prefix_len is_ascii_hexdigit (drop 2 (b ∷ bs))) (drop 2 (b ∷ bs)),
              length-drop 2 (b ∷ bs),
            )
        | inr ten ↦ run_shorter is_ascii_digit b bs after digit.0 (ok_both _ t _ after ten.1).1
      ]
      | inr none ↦ elim (chosen (begins_name b) _ _ (Ok (t, after)) none.1) [
        | inl begins ↦ elim (chosen (ltb longest_name (length (run_of continues_name (b ∷ bs)).0)) _ _ (Ok (t, after)) begins.1) [
          | inl long ↦ absurd cc
          | inr short ↦ run_shorter continues_name b bs after (begins_in_name b begins.0) (ok_both _ t _ after short.1).1
        ]
        | inr neither ↦ elim (chosen (is_minus set b) (Ok (symbol Minus, bs)) _ (Ok (t, after)) neither.1) [
          | inl minus ↦ omega (arith, ap (λ (l : List ℕ). length l) (ok_both (symbol Minus) t bs after minus.1).1)
          | inr no_minus ↦ by_symbol (symbol_among symbols (b ∷ bs)) refl no_minus.1
        ]
      ]
    ]
  where
    by_symbol : (o : Option (Symbol × List ℕ))
        → symbol_among symbols (b ∷ bs) ≡ o
        → symbol_or_bad (length (b ∷ bs)) o ≡ Ok (t, after)
        → length after < length (b ∷ bs)
    by_symbol None missing h = absurd cc
    by_symbol (Some (s, rest)) found h =
        let shorter = symbol_shorter symbols (b ∷ bs) (s, rest) refl found (omega arith) in
        omega (arith, shorter, ap (λ (l : List ℕ). length l) (ok_both (symbol s) t rest after h).1)

piece_shorter : (set : Instructions) (bytes : List ℕ) (p : Piece) (after : List ℕ) → piece_at set bytes ≡ Ok (p, after) → length after < length bytes
unfolding piece_at
piece_shorter set bytes p after e = by_gap (gap_end None bytes) refl
  where
    by_term : (at : List ℕ) → gap_end None bytes ≡ Ok at → (r : Result (Term × List ℕ) Stop) → term_at set at ≡ r → length after < length bytes
    by_term at gap (Err stop) is = let h : (let q : Result (Piece × List ℕ) Stop = Err stop in q) ≡ Ok (p, after) = rw (gap, is) at e in absurd cc
    by_term at gap (Ok (t, rest)) is =
        let h : (let q : Result (Piece × List ℕ) Stop = Ok (record { remaining = length at; term = t }, rest) in q) ≡ Ok (p, after) = rw (gap, is) at e in
        let same = ok_both (record { remaining = length at; term = t }) p rest after h in
        omega (arith, term_shorter set at t rest is, gap_within None bytes at gap, ap (λ (l : List ℕ). length l) same.1)

    by_gap : (r : Result (List ℕ) Stop) → gap_end None bytes ≡ r → length after < length bytes
    by_gap (Ok at) is = by_term at is (term_at set at) refl
    by_gap (Err stop) is = let h : (let q : Result (Piece × List ℕ) Stop = Err stop in q) ≡ Ok (p, after) = rw is at e in absurd cc

piece_stop : (x y : Stop) → (let q : Result (Piece × List ℕ) Stop = Err x in q) ≡ Err y → x ≡ y
piece_stop x y e = cc

-- ---- all tokens

abbrev onward : (List ℕ → List Piece × Stop) → Result (Piece × List ℕ) Stop → List Piece × Stop
onward further (Ok found) = onto found.0 (further found.1)
onward further (Err stop) = ([], stop)

one_step : (set : Instructions) (n : ℕ) (bytes : List ℕ) → pieces_within set (suc n) bytes ≡ onward (pieces_within set n) (piece_at set bytes)
unfolding pieces_within
one_step set n bytes = by_piece (piece_at set bytes)
  where
    by_piece : (r : Result (Piece × List ℕ) Stop)
        → elim r [ Ok found ↦ onto found.0 (pieces_within set n found.1) | Err stop ↦ ([], stop) ]
        ≡ onward (pieces_within set n) r
    by_piece (Ok found) = refl
    by_piece (Err stop) = refl

nothing_there : (set : Instructions) → piece_at set [] ≡ Err End
unfolding piece_at gap_end term_at
nothing_there set = refl

no_bytes : (set : Instructions) (n : ℕ) → pieces_within set n [] ≡ ([], End)
unfolding pieces_within
no_bytes set zero = refl
no_bytes set (suc n) = one_step set n [] ∙ ap (onward (pieces_within set n)) (nothing_there set)

-- more steps than there are bytes find no more
pub pieces_same : (set : Instructions) (n m : ℕ) (bytes : List ℕ) → length bytes ≤ n → length bytes ≤ m → pieces_within set n bytes ≡ pieces_within set m bytes
pieces_same set n m [] le le' = no_bytes set n ∙ sym (no_bytes set m)
pieces_same set zero m (b ∷ bs) le le' = absurd (omega arith)
pieces_same set (suc n) zero (b ∷ bs) le le' = absurd (omega arith)
pieces_same set (suc n) (suc m) (b ∷ bs) le le' =
    one_step set n (b ∷ bs)
    ∙ by_piece (piece_at set (b ∷ bs)) refl (λ rest le le'. pieces_same set n m rest le le')
    ∙ sym (one_step set m (b ∷ bs))
  where
    by_piece : (r : Result (Piece × List ℕ) Stop) → piece_at set (b ∷ bs) ≡ r
        → ((rest : List ℕ) → length rest ≤ n → length rest ≤ m → pieces_within set n rest ≡ pieces_within set m rest)
        → onward (pieces_within set n) r ≡ onward (pieces_within set m) r
    by_piece (Err stop) is same = refl
    by_piece (Ok (p, after)) is same =
        let shorter = piece_shorter set (b ∷ bs) p after is in
        ap (onto p) (same after (omega (arith, shorter)) (omega (arith, shorter)))

-- and the other way round
pub first_again : (set : Instructions) (bytes : List ℕ) (p : Piece) (ps : List Piece) (stop : Stop) (after : List ℕ)
    → piece_at set bytes ≡ Ok (p, after)
    → (ps, stop) ≡ pieces_of set after
    → (p ∷ ps, stop) ≡ pieces_of set bytes
unfolding pieces_of
first_again set [] p ps stop after is e =
    let never : (let q : Result (Piece × List ℕ) Stop = Err End in q) ≡ Ok (p, after) = sym (nothing_there set) ∙ is in
    absurd cc
first_again set (b ∷ bs) p ps stop after is e =
    let shorter = piece_shorter set (b ∷ bs) p after is in
    ap (onto p) (e ∙ pieces_same set (length after) (length bs) after (omega arith) (omega (arith, shorter)))
    ∙ sym (one_step set (length bs) (b ∷ bs) ∙ ap (onward (pieces_within set (length bs))) is)

-- where no token is at the front, there are none
pub none_again : (set : Instructions) (bytes : List ℕ) (stop : Stop) → piece_at set bytes ≡ Err stop → ([], stop) ≡ pieces_of set bytes
unfolding pieces_of
none_again set [] stop is =
    let same : (let q : Result (Piece × List ℕ) Stop = Err End in q) ≡ Err stop = sym (nothing_there set) ∙ is in
    ap (λ (s : Stop). ([], s)) (sym (piece_stop End stop same)) ∙ sym (no_bytes set zero)
none_again set (b ∷ bs) stop is = sym (one_step set (length bs) (b ∷ bs) ∙ ap (onward (pieces_within set (length bs))) is)
