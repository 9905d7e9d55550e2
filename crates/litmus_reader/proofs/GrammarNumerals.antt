-- Numbers are read as they are spelled, perhaps with a sign.
use Rattle.litmus_reader.proofs.Vocabulary.{◌≡◌, ℕ, false, true, List, [], ◌∷◌, ◌++◌, Some, None, refl, ap, subst, ◌∙◌, inl, inr, Symbol}
use Rattle.litmus_reader.proofs.Vocabulary.{Minus, Term, number, hexadecimal, name, symbol, decimal_value, hexadecimal_value, negative}
use Rattle.litmus_reader.proofs.Vocabulary.{Piece, is_symbol_term, is_symbol, symbol_at, unsigned_then, unsigned_at, numeral_at, terms}
use Rattle.litmus_reader.proofs.Vocabulary.{IsUnsigned, IsNumeral, Bool, sym, Passes}
use Rattle.litmus_reader.specs.GrammarNumerals as numerals
use Rattle.litmus_reader.proofs.GrammarTokens.{there_is, there_some, pair_is, opened, symbol_found, terms_append}
use Rattle.litmus_reader.proofs.SectionSteps.{Lacks}

-- ---- found

unsigned_found : (t : Term) (v : ℕ) → IsUnsigned t v → (p : Piece) (rest : List Piece) → p.term ≡ t → unsigned_at (p ∷ rest) ≡ Some (v, rest)
unfolding unsigned_at
unsigned_found _ _ (numerals.in_decimal v) p rest is = rw is refl
unsigned_found _ _ (numerals.in_hexadecimal v) p rest is = rw is refl

no_unsigned : (p : Piece) (ps : List Piece) (s : Symbol) → p.term ≡ symbol s → unsigned_at (p ∷ ps) ≡ None
unfolding unsigned_at
no_unsigned p ps s is = rw is refl

pub symbol_there : (s : Symbol) (p : Piece) (ps : List Piece) → p.term ≡ symbol s → is_symbol_term s (symbol s) ≡ true → symbol_at s (p ∷ ps) ≡ Some ps
unfolding symbol_at is_symbol
symbol_there s p ps is same = rw (is, same) refl

-- no number begins with a name, or with another symbol than a sign
pub no_numeral : (s : Symbol) (p : Piece) (ps : List Piece) → p.term ≡ symbol s → is_symbol_term Minus (symbol s) ≡ false → numeral_at (p ∷ ps) ≡ None
unfolding numeral_at unsigned_at symbol_at is_symbol
no_numeral s p ps is other = rw (is, other) refl

pub no_numeral_named : (x : List ℕ) (p : Piece) (ps : List Piece) → p.term ≡ name x → numeral_at (p ∷ ps) ≡ None
unfolding numeral_at unsigned_at symbol_at is_symbol
no_numeral_named x p ps is = rw is refl

pub record NumeralFound (ps : List Piece) (v : ℕ) (back : List Term) : Type 0 where
  pub rest : List Piece
  pub is : numeral_at ps ≡ Some (v, rest)
  pub after_it : terms rest ≡ back

pub numeral_found : (ts back : List Term) (v : ℕ) → IsNumeral ts v → (ps : List Piece) → terms ps ≡ ts ++ back → NumeralFound ps v back
unfolding numeral_at
numeral_found _ back _ (numerals.unsigned t v is) ps e =
    opened (λ ps. NumeralFound ps v back) ps t back e (λ p rest is_term after_it.
    record { rest = rest; is = rw (unsigned_found t v is p rest is_term) refl; after_it = after_it })
numeral_found _ back _ (numerals.signed t v is) ps e =
    opened (λ ps. NumeralFound ps (negative v) back) ps (symbol Minus) (t ∷ back) e (λ p after is_minus then.
    opened (λ after. NumeralFound (p ∷ after) (negative v) back) after t back then (λ q rest is_term after_it.
    record {
      rest = rest;
      is = rw (no_unsigned p (q ∷ rest) Minus is_minus, symbol_there Minus p (q ∷ rest) is_minus refl, unsigned_found t v is q rest is_term) refl;
      after_it = after_it;
    }))

-- ---- taken

unsigned_taken : (ps rest : List Piece) (v : ℕ) → unsigned_at ps ≡ Some (v, rest) → (q : Piece) × (ps ≡ q ∷ rest) × IsUnsigned q.term v
unfolding unsigned_at
unsigned_taken [] rest v e = absurd cc
unsigned_taken (p ∷ ps) rest v e = by_term p.term refl e
  where
    by_term : (t : Term) → p.term ≡ t → unsigned_then t ps ≡ Some (v, rest) → (q : Piece) × (p ∷ ps ≡ q ∷ rest) × IsUnsigned q.term v
    by_term (number d) is h =
        let same = pair_is (decimal_value d) v ps rest h in (
          p,
          ap (λ (l : List Piece). p ∷ l) same.1,
          subst (IsUnsigned p.term) same.0 (subst (λ (t : Term). IsUnsigned t (decimal_value d)) (sym is) (numerals.in_decimal d)),
        )
    by_term (hexadecimal d) is h =
        let same = pair_is (hexadecimal_value d) v ps rest h in (
          p,
          ap (λ (l : List Piece). p ∷ l) same.1,
          subst (IsUnsigned p.term) same.0 (subst (λ (t : Term). IsUnsigned t (hexadecimal_value d)) (sym is) (numerals.in_hexadecimal d)),
        )
    by_term (name x) is h = absurd cc
    by_term (symbol s) is h = absurd cc

pub numeral_taken : (ps rest : List Piece) (v : ℕ) → numeral_at ps ≡ Some (v, rest) → Passes (λ ts. IsNumeral ts v) ps rest
unfolding numeral_at
numeral_taken ps rest v e =
    elim (there_is (unsigned_at ps) (λ found. Some found) _ (Some (v, rest)) e) [
      | inl n ↦
          let t = unsigned_taken ps rest v (n.1 ∙ n.2) in
          record { front = t.0 ∷ []; parts = t.1; is = numerals.unsigned t.0.term v t.2 }
      | inr no_number ↦
          let m = there_some (symbol_at Minus ps) _ (v, rest) no_number.1 in
          let n = there_some (unsigned_at m.0) (λ (found : ℕ × List Piece). Some (negative found.0, found.1)) (v, rest) m.2 in
          let same = pair_is (negative n.0.0) v n.0.1 rest n.2 in
          let minus = symbol_found Minus ps m.0 m.1 in
          let t = unsigned_taken m.0 n.0.1 n.0.0 n.1 in
          record {
            front = minus.0 ∷ t.0 ∷ [];
            parts = minus.1 ∙ ap (λ (l : List Piece). minus.0 ∷ l) (t.1 ∙ ap (λ (l : List Piece). t.0 ∷ l) same.1);
            is =
                subst (λ (u : Term). IsNumeral (u ∷ t.0.term ∷ []) v) (sym minus.2)
                (subst (IsNumeral (symbol Minus ∷ t.0.term ∷ [])) same.0 (numerals.signed t.0.term n.0.0 t.2));
          }
    ]

-- the terms of a number that was taken
pub record NumeralTerms (ps : List Piece) (v : ℕ) (rest : List Piece) : Type 0 where
  pub ts : List Term
  pub parts : terms ps ≡ ts ++ terms rest
  pub is : IsNumeral ts v

pub numeral_terms : (ps rest : List Piece) (v : ℕ) → numeral_at ps ≡ Some (v, rest) → NumeralTerms ps v rest
numeral_terms ps rest v e =
    let t = numeral_taken ps rest v e in
    record { ts = terms t.front; parts = ap (λ (l : List Piece). terms l) t.parts ∙ terms_append t.front rest; is = t.is }

-- ---- what doesn't stand in a number

unsigned_lacks : (is_one : Term → Bool)
    → ((d : List ℕ) → is_one (number d) ≡ false)
    → ((d : List ℕ) → is_one (hexadecimal d) ≡ false)
    → (t : Term) (v : ℕ)
    → IsUnsigned t v
    → is_one t ≡ false
unsigned_lacks is_one none none_so _ _ (numerals.in_decimal d) = none d
unsigned_lacks is_one none none_so _ _ (numerals.in_hexadecimal d) = none_so d

pub numeral_lacks : (is_one : Term → Bool)
    → ((d : List ℕ) → is_one (number d) ≡ false)
    → ((d : List ℕ) → is_one (hexadecimal d) ≡ false)
    → is_one (symbol Minus) ≡ false
    → (ts : List Term) (v : ℕ) → IsNumeral ts v → Lacks is_one ts
numeral_lacks is_one none none_so no_minus _ _ (numerals.unsigned t v is) = (unsigned_lacks is_one none none_so t v is, tt)
numeral_lacks is_one none none_so no_minus _ _ (numerals.signed t v is) = (no_minus, (unsigned_lacks is_one none none_so t v is, tt))
