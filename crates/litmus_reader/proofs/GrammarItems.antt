-- Items are read where they are spelled.
use Rattle.litmus_reader.proofs.Vocabulary.{◌≡◌, ℕ, List, [], ◌∷◌, ◌++◌, Ok, refl, ap, subst, ◌∙◌, inl, inr, Equals, Colon, OpenSquare}
use Rattle.litmus_reader.proofs.Vocabulary.{CloseSquare, Term, number, name, symbol, Piece, is_symbol, symbol_at, name_at, number_at, Part}
use Rattle.litmus_reader.proofs.Vocabulary.{or_unfit, location_at, register_at, value_at, register_setting, square_setting, plain_setting}
use Rattle.litmus_reader.proofs.Vocabulary.{setting_at, terms, IsSetting, sets_register, sets_location, sets_in_squares, Setting}
use Rattle.litmus_reader.proofs.Vocabulary.{of_register, of_location, Passes, append_assoc, sym, numeral_at, IsNumeral}
use Rattle.litmus_reader.proofs.GrammarTokens.{there_is, ok_pair, bind_ok, or_unfit_ok, opened, terms_append, Takes, number_found, symbol_found}
use Rattle.litmus_reader.proofs.GrammarNumerals.{symbol_there, numeral_found, numeral_taken}
use Rattle.litmus_reader.proofs.GrammarOperands.{location_found, register_found}
use Rattle.litmus_reader.proofs.Readings.{Reads}

abbrev Found : Part → Setting → List Term → List Piece → Type 0
Found part s back ps = Reads (setting_at part ps) s back

-- `=` and a value are found
record ValueFound (part : Part) (ps : List Piece) (v : ℕ) (back : List Term) : Type 0 where
  pub rest : List Piece
  pub is : value_at part ps ≡ Ok (v, rest)
  pub after_it : terms rest ≡ back

value_found : (part : Part) (ts back : List Term) (v : ℕ)
    → IsNumeral ts v
    → (ps : List Piece) → terms ps ≡ symbol Equals ∷ ts ++ back
    → ValueFound part ps v back
unfolding value_at
value_found part ts back v is ps e =
    opened (λ ps. ValueFound part ps v back) ps (symbol Equals) (ts ++ back) e (λ p after is_equals then.
    let n = numeral_found ts back v is after then in
    record { rest = n.rest; is = rw (symbol_there Equals p after is_equals refl, n.is) refl; after_it = n.after_it })

pub setting_found : (part : Part) (ts back : List Term) (s : Setting) → IsSetting ts s → (ps : List Piece) → terms ps ≡ ts ++ back → Found part s back ps
unfolding setting_at register_setting square_setting plain_setting register_at location_at number_at name_at symbol_at is_symbol
setting_found part _ back _ (sets_register core word reg v value good is_value) ps e =
    let Is : List Piece → Type 0 = Found part (of_register core reg value) back in
    opened Is ps (number core) (symbol Colon ∷ name word ∷ symbol Equals ∷ v ++ back) e (λ a later is_core e.
    opened (λ l. Is (a ∷ l)) later (symbol Colon) (name word ∷ symbol Equals ∷ v ++ back) e (λ b bs is_colon e.
    opened (λ l. Is (a ∷ b ∷ l)) bs (name word) (symbol Equals ∷ v ++ back) e (λ c cs is_name e.
    let n = value_found part v back value is_value cs e in
    record { rest = n.rest; is = rw (is_core, is_colon, is_name, good, n.is) refl; after_it = n.after_it })))
setting_found part _ back _ (sets_location x v value good is_value) ps e =
    let Is : List Piece → Type 0 = Found part (of_location x value) back in
    opened Is ps (name x) (symbol Equals ∷ v ++ back) e (λ a later is_name e.
    let n = value_found part v back value is_value later e in
    record { rest = n.rest; is = rw (is_name, good, n.is) refl; after_it = n.after_it })
setting_found part _ back _ (sets_in_squares x v value good is_value) ps e =
    let Is : List Piece → Type 0 = Found part (of_location x value) back in
    opened Is ps (symbol OpenSquare) (name x ∷ symbol CloseSquare ∷ symbol Equals ∷ v ++ back) e (λ a later is_open e.
    opened (λ l. Is (a ∷ l)) later (name x) (symbol CloseSquare ∷ symbol Equals ∷ v ++ back) e (λ b bs is_name e.
    opened (λ l. Is (a ∷ b ∷ l)) bs (symbol CloseSquare) (symbol Equals ∷ v ++ back) e (λ c cs is_close e.
    let n = value_found part v back value is_value cs e in
    record { rest = n.rest; is = rw (is_open, is_name, good, is_close, n.is) refl; after_it = n.after_it })))

-- ---- taken

-- `=` and a value were taken
record ValueTaken (ps rest : List Piece) (v : ℕ) : Type 0 where
  pub equals : Piece
  pub value : List Piece
  pub parts : ps ≡ equals ∷ value ++ rest
  pub is_equals : equals.term ≡ symbol Equals
  pub is_value : IsNumeral (terms value) v

value_taken : (part : Part) (ps rest : List Piece) (v : ℕ) → value_at part ps ≡ Ok (v, rest) → ValueTaken ps rest v
unfolding value_at
value_taken part ps rest v e =
    let a = bind_ok (or_unfit part ps (symbol_at Equals ps)) _ (v, rest) e in
    let equals = symbol_found Equals ps a.0 (or_unfit_ok part ps (symbol_at Equals ps) a.0 a.1) in
    let n = numeral_taken a.0 rest v (or_unfit_ok part a.0 (numeral_at a.0) (v, rest) a.2) in
    record { equals = equals.0; value = n.front; parts = equals.1 ∙ ap (λ (l : List Piece). equals.0 ∷ l) n.parts; is_equals = equals.2; is_value = n.is }

abbrev Taken : List Piece → Setting → List Piece → Type 0
Taken ps s rest = Passes (λ ts. IsSetting ts s) ps rest

-- a value after some tokens, which say of what
after_these : (make : ℕ → Setting) (s : Setting) (front ps rest after all : List Piece) (v : ℕ)
    → all ≡ front ++ ps
    → (t : ValueTaken ps after v) → (make v ≡ s) × (after ≡ rest)
    → ((w : List Term) → IsNumeral w v → IsSetting (terms front ++ symbol Equals ∷ w) (make v)) → Taken all s rest
after_these make s front ps rest after all v begins t same spelled =
    let last = t.equals ∷ t.value in
    let are : terms (front ++ last) ≡ terms front ++ symbol Equals ∷ terms t.value = terms_append front last ∙ rw t.is_equals refl in
    record {
      front = front ++ last;
      parts =
          begins
          ∙ ap (λ (l : List Piece). front ++ l) (t.parts ∙ ap (λ (l : List Piece). t.equals ∷ t.value ++ l) same.1)
          ∙ sym (append_assoc front last rest);
      is =
          subst (λ (ts : List Term). IsSetting ts s) (sym are)
          (subst (IsSetting (terms front ++ symbol Equals ∷ terms t.value)) same.0 (spelled (terms t.value) t.is_value));
    }

register_taken : (part : Part) (core : List ℕ) (all ps rest : List Piece) (s : Setting)
    → Takes (number core) all ps
    → register_setting part core ps ≡ Ok (s, rest)
    → Taken all s rest
unfolding register_setting
register_taken part core all ps rest s first e =
    let a = bind_ok (or_unfit part ps (symbol_at Colon ps)) _ (s, rest) e in
    let b = bind_ok (or_unfit part a.0 (register_at a.0)) _ (s, rest) a.2 in
    let c = bind_ok (value_at part b.0.1) _ (s, rest) b.2 in
    let colon = symbol_found Colon ps a.0 (or_unfit_ok part ps (symbol_at Colon ps) a.0 a.1) in
    let reg = register_found a.0 b.0.1 b.0.0 (or_unfit_ok part a.0 (register_at a.0) b.0 b.1) in
    let word = reg.1 in
    let front = first.0 ∷ colon.0 ∷ word.0 ∷ [] in
    let begins : all ≡ front ++ b.0.1 = first.1 ∙ ap (λ (l : List Piece). first.0 ∷ l) (colon.1 ∙ ap (λ (l : List Piece). colon.0 ∷ l) word.1) in
    after_these (of_register core b.0.0) s front b.0.1 rest c.0.1 all c.0.0 begins
    (value_taken part b.0.1 c.0.1 c.0.0 c.1) (ok_pair (of_register core b.0.0 c.0.0) s c.0.1 rest c.2)
    (λ w is. rw (first.2, colon.2, word.2) (sets_register core reg.0 b.0.0 w c.0.0 reg.2 is))

square_taken : (part : Part) (all ps rest : List Piece) (s : Setting)
    → Takes (symbol OpenSquare) all ps
    → square_setting part ps ≡ Ok (s, rest)
    → Taken all s rest
unfolding square_setting
square_taken part all ps rest s first e =
    let a = bind_ok (or_unfit part ps (location_at ps)) _ (s, rest) e in
    let b = bind_ok (or_unfit part a.0.1 (symbol_at CloseSquare a.0.1)) _ (s, rest) a.2 in
    let c = bind_ok (value_at part b.0) _ (s, rest) b.2 in
    let x = a.0.0 in
    let loc = location_found ps a.0.1 x (or_unfit_ok part ps (location_at ps) a.0 a.1) in
    let word = loc.0 in
    let close = symbol_found CloseSquare a.0.1 b.0 (or_unfit_ok part a.0.1 (symbol_at CloseSquare a.0.1) b.0 b.1) in
    let front = first.0 ∷ word.0 ∷ close.0 ∷ [] in
    let begins : all ≡ front ++ b.0 = first.1 ∙ ap (λ (l : List Piece). first.0 ∷ l) (word.1 ∙ ap (λ (l : List Piece). word.0 ∷ l) close.1) in
    after_these (of_location x) s front b.0 rest c.0.1 all c.0.0 begins (value_taken part b.0 c.0.1 c.0.0 c.1) (ok_pair (of_location x c.0.0) s c.0.1 rest c.2)
    (λ w is. rw (first.2, word.2, close.2) (sets_in_squares x w c.0.0 loc.1 is))

plain_taken : (part : Part) (ps rest : List Piece) (s : Setting) → plain_setting part ps ≡ Ok (s, rest) → Taken ps s rest
unfolding plain_setting
plain_taken part ps rest s e =
    let a = bind_ok (or_unfit part ps (location_at ps)) _ (s, rest) e in
    let c = bind_ok (value_at part a.0.1) _ (s, rest) a.2 in
    let x = a.0.0 in
    let loc = location_found ps a.0.1 x (or_unfit_ok part ps (location_at ps) a.0 a.1) in
    let word = loc.0 in
    after_these (of_location x) s (word.0 ∷ []) a.0.1 rest c.0.1 ps c.0.0 word.1
    (value_taken part a.0.1 c.0.1 c.0.0 c.1) (ok_pair (of_location x c.0.0) s c.0.1 rest c.2)
    (λ w is. rw word.2 (sets_location x w c.0.0 loc.1 is))

pub setting_taken : (part : Part) (ps rest : List Piece) (s : Setting) → setting_at part ps ≡ Ok (s, rest) → Taken ps s rest
unfolding setting_at
setting_taken part ps rest s e =
    elim (there_is (number_at ps) (λ core. register_setting part core.0 core.1) _ (Ok (s, rest)) e) [
      | inl core ↦ register_taken part core.0.0 ps core.0.1 rest s (number_found ps core.0.1 core.0.0 core.1) core.2
      | inr no_core ↦ elim (there_is (symbol_at OpenSquare ps) (square_setting part) (plain_setting part ps) (Ok (s, rest)) no_core.1) [
        | inl square ↦ square_taken part ps square.0 rest s (symbol_found OpenSquare ps square.0 square.1) square.2
        | inr no_square ↦ plain_taken part ps rest s no_square.1
      ]
    ]
