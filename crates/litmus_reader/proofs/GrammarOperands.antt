-- Operands are read as they are spelled.
use Rattle.litmus_reader.proofs.Vocabulary.{◌≡◌, ℕ, true, List, [], ◌∷◌, ◌++◌, Some, None, refl, sym, ap, subst, ◌∙◌, inl, inr, append-nil}
use Rattle.litmus_reader.proofs.Vocabulary.{is_location_name, register_named, same_letters, Reg, OpenSquare, CloseSquare, Comma, Dollar}
use Rattle.litmus_reader.proofs.Vocabulary.{Term, name, symbol, Piece, is_symbol, symbol_at, name_at, location_at, register_at}
use Rattle.litmus_reader.proofs.Vocabulary.{ArgumentTerm, in_memory, in_register, constant, as_constant, memory_at, if_last, argument_at}
use Rattle.litmus_reader.proofs.Vocabulary.{two_arguments, terms, IsOperand, IsCall, name_then, numeral_at, unsigned_at, if_alone}
use Rattle.litmus_reader.proofs.Vocabulary.{one_argument, IsNumeral, IsCallOfOne}
use Rattle.litmus_reader.specs.GrammarCells as cells
use Rattle.litmus_reader.proofs.GrammarNumerals.{symbol_there, no_numeral, numeral_found, numeral_terms}
use Rattle.litmus_reader.proofs.GrammarTokens.{chosen, there_is, there_some, some_is, pair_is, front, opened, no_terms, symbol_takes, Takes, takes, name_found}

-- ---- locations and registers

pub location_found : (ps rest : List Piece) (x : List ℕ) → location_at ps ≡ Some (x, rest) → Takes (name x) ps rest × (is_location_name x ≡ true)
unfolding location_at
location_found ps rest x e =
    let n = there_some (name_at ps) _ (x, rest) e in
    elim (chosen (is_location_name n.0.0) (Some n.0) None (Some (x, rest)) n.2) [
      | inl hit ↦
          let same = pair_is n.0.0 x n.0.1 rest hit.1 in
          let found = name_found ps n.0.1 n.0.0 n.1 in
          ((found.0, found.1 ∙ ap (λ l. found.0 ∷ l) same.1, found.2 ∙ ap (λ x. name x) same.0), ap is_location_name (sym same.0) ∙ hit.0)
      | inr miss ↦ absurd cc
    ]

pub register_found : (ps rest : List Piece) (reg : Reg)
    → register_at ps ≡ Some (reg, rest)
    → (x : List ℕ) × Takes (name x) ps rest × (register_named x ≡ Some reg)
unfolding register_at
register_found ps rest reg e =
    let n = there_some (name_at ps) _ (reg, rest) e in
    let r = there_some (register_named n.0.0) (λ (reg : Reg). Some (reg, n.0.1)) (reg, rest) n.2 in
    let same = pair_is r.0 reg n.0.1 rest r.2 in
    let found = name_found ps n.0.1 n.0.0 n.1 in
    (n.0.0, (found.0, found.1 ∙ ap (λ l. found.0 ∷ l) same.1, found.2), r.1 ∙ ap (λ reg. Some reg) same.0)

-- ---- operands

-- an operand is found
record Found (ps : List Piece) (o : ArgumentTerm) (back : List Term) : Type 0 where
  pub rest : List Piece
  pub is : argument_at ps ≡ Some (o, rest)
  pub after_it : terms rest ≡ back

numeral_is : (ts back : List Term) (v : ℕ) → IsNumeral ts v → (ps : List Piece) → terms ps ≡ ts ++ back → Found ps (constant v) back
unfolding argument_at
numeral_is ts back v is ps e = let n = numeral_found ts back v is ps e in record { rest = n.rest; is = rw n.is refl; after_it = n.after_it }

after_dollar : (ts back : List Term) (v : ℕ) → IsNumeral ts v → (ps : List Piece) → terms ps ≡ symbol Dollar ∷ ts ++ back → Found ps (constant v) back
unfolding argument_at
after_dollar ts back v is ps e =
    opened (λ ps. Found ps (constant v) back) ps (symbol Dollar) (ts ++ back) e (λ p after is_dollar then.
    let n = numeral_found ts back v is after then in
    record { rest = n.rest; is = rw (no_numeral Dollar p after is_dollar refl, symbol_there Dollar p after is_dollar refl, n.is) refl; after_it = n.after_it })

operand_found : (ts back : List Term) (o : ArgumentTerm) → IsOperand ts o → (ps : List Piece) → terms ps ≡ ts ++ back → Found ps o back
unfolding argument_at numeral_at unsigned_at symbol_at is_symbol location_at register_at name_at
operand_found _ back _ (cells.plain ts v is) ps e = numeral_is ts back v is ps e
operand_found _ back _ (cells.with_dollar ts v is) ps e = after_dollar ts back v is ps e
operand_found _ back _ (cells.in_squares x good) ps e =
    opened (λ ps. Found ps (in_memory x) back) ps (symbol OpenSquare) (name x ∷ symbol CloseSquare ∷ back) e (λ p after is then.
    opened (λ after. Found (p ∷ after) (in_memory x) back) after (name x) (symbol CloseSquare ∷ back) then (λ q last is_name close.
    opened (λ last. Found (p ∷ q ∷ last) (in_memory x) back) last (symbol CloseSquare) back close (λ r rest is_close after_it.
    record { rest = rest; is = rw (is, is_name, good, is_close) refl; after_it = after_it })))
operand_found _ back _ (cells.named word reg is) ps e =
    opened (λ ps. Found ps (in_register reg) back) ps (name word) back e
    (λ p rest is_name after_it. record { rest = rest; is = rw (is_name, is) refl; after_it = after_it })

one_found : (ts : List Term) (only : ArgumentTerm) → IsOperand ts only → (ps : List Piece) → terms ps ≡ ts → one_argument ps ≡ Some only
unfolding one_argument
one_found ts only is ps e =
    let one = operand_found ts [] only is ps (e ∙ sym (append-nil ts)) in
    rw (one.is, no_terms one.rest one.after_it) refl

two_found : (a b : List Term) (first second : ArgumentTerm)
    → IsOperand a first
    → IsOperand b second
    → (ps : List Piece) → terms ps ≡ a ++ symbol Comma ∷ b
    → two_arguments ps ≡ Some (first, second)
unfolding two_arguments symbol_at is_symbol
two_found a b first second is_first is_second ps e =
    let one = operand_found a (symbol Comma ∷ b) first is_first ps e in
    let comma = front one.rest (symbol Comma) b one.after_it in
    let other = operand_found b [] second is_second comma.rest (comma.after_it ∙ sym (append-nil b)) in
    rw (one.is, comma.parts, comma.is, other.is, no_terms other.rest other.after_it) refl

-- what an operand took
record Taken (ps : List Piece) (o : ArgumentTerm) (rest : List Piece) : Type 0 where
  pub ts : List Term
  pub parts : terms ps ≡ ts ++ terms rest
  pub is : IsOperand ts o

operand_taken : (ps rest : List Piece) (o : ArgumentTerm) → argument_at ps ≡ Some (o, rest) → Taken ps o rest
unfolding argument_at
operand_taken ps rest o e =
    elim (there_is (numeral_at ps) as_constant _ (Some (o, rest)) e) [
      | inl n ↦
          let same = pair_is (constant n.0.0) o n.0.1 rest n.2 in
          let t = numeral_terms ps n.0.1 n.0.0 n.1 in
          record {
            ts = t.ts;
            parts = t.parts ∙ ap (λ (l : List Piece). t.ts ++ terms l) same.1;
            is = subst (IsOperand t.ts) same.0 (cells.plain t.ts n.0.0 t.is);
          }
      | inr no_number ↦ elim (there_is (symbol_at Dollar ps) _ _ (Some (o, rest)) no_number.1) [
        | inl dollar ↦
            let n = there_some (numeral_at dollar.0) as_constant (o, rest) dollar.2 in
            let same = pair_is (constant n.0.0) o n.0.1 rest n.2 in
            let t = numeral_terms dollar.0 n.0.1 n.0.0 n.1 in
            record {
              ts = symbol Dollar ∷ t.ts;
              parts =
                  symbol_takes Dollar ps dollar.0 dollar.1
                  ∙ ap (λ (ts : List Term). symbol Dollar ∷ ts) (t.parts ∙ ap (λ (l : List Piece). t.ts ++ terms l) same.1);
              is = subst (IsOperand (symbol Dollar ∷ t.ts)) same.0 (cells.with_dollar t.ts n.0.0 t.is);
            }
        | inr no_dollar ↦ elim (there_is (symbol_at OpenSquare ps) memory_at _ (Some (o, rest)) no_dollar.1) [
          | inl square ↦
              let x = there_some (location_at square.0) _ (o, rest) square.2 in
              let c = there_some (symbol_at CloseSquare x.0.1) (λ (rest : List Piece). Some (in_memory x.0.0, rest)) (o, rest) x.2 in
              let same = pair_is (in_memory x.0.0) o c.0 rest c.2 in
              let is = location_found square.0 x.0.1 x.0.0 x.1 in
              record {
                ts = symbol OpenSquare ∷ name x.0.0 ∷ symbol CloseSquare ∷ [];
                parts = symbol_takes OpenSquare ps square.0 square.1
                    ∙ ap (λ (ts : List Term). symbol OpenSquare ∷ ts)
                    (takes (name x.0.0) square.0 x.0.1 is.0
                    ∙ ap (λ (ts : List Term). name x.0.0 ∷ ts) (symbol_takes CloseSquare x.0.1 c.0 c.1))
                    ∙ rw same.1 refl;
                is = subst (IsOperand (symbol OpenSquare ∷ name x.0.0 ∷ symbol CloseSquare ∷ [])) same.0 (cells.in_squares x.0.0 is.1);
              }
          | inr no_square ↦
              let r = there_some (register_at ps) _ (o, rest) no_square.1 in
              let same = pair_is (in_register r.0.0) o r.0.1 rest r.2 in
              let is = register_found ps r.0.1 r.0.0 r.1 in
              record {
                ts = name is.0 ∷ [];
                parts = takes (name is.0) ps r.0.1 is.1 ∙ ap (λ (l : List Piece). name is.0 ∷ terms l) same.1;
                is = subst (IsOperand (name is.0 ∷ [])) same.0 (cells.named is.0 r.0.0 is.2);
              }
        ]
      ]
    ]

at_last : (first : ArgumentTerm) (found : ArgumentTerm × List Piece) (both : ArgumentTerm × ArgumentTerm)
    → if_last first found ≡ Some both
    → (first ≡ both.0) × (found.0 ≡ both.1) × (found.1 ≡ [])
at_last first (second, []) both e = let same = pair_is first both.0 second both.1 e in (same.0, same.1, refl)
at_last first (second, p ∷ ps) both e = absurd cc

pub call_taken : (word letters : List ℕ) (ps : List Piece) (both : ArgumentTerm × ArgumentTerm)
    → same_letters letters word ≡ true
    → two_arguments ps ≡ Some both
    → IsCall word (name letters ∷ terms ps) both.0 both.1
unfolding two_arguments
call_taken word letters ps both is e =
    let f = there_some (argument_at ps) _ both e in
    let c = there_some (symbol_at Comma f.0.1) _ both f.2 in
    let s = there_some (argument_at c.0) (if_last f.0.0) both c.2 in
    let one = operand_taken ps f.0.1 f.0.0 f.1 in
    let other = operand_taken c.0 s.0.1 s.0.0 s.1 in
    let last = at_last f.0.0 s.0 both s.2 in
    let nothing : other.ts ++ terms s.0.1 ≡ other.ts = ap (λ (l : List Piece). other.ts ++ terms l) last.2 ∙ append-nil other.ts in
    let parts =
    one.parts
    ∙ ap (λ (ts : List Term). one.ts ++ ts)
    (symbol_takes Comma f.0.1 c.0 c.1 ∙ ap (λ (ts : List Term). symbol Comma ∷ ts) (other.parts ∙ nothing)) in
    rw parts (cells.call letters one.ts other.ts both.0 both.1 is (subst (IsOperand one.ts) last.0 one.is) (subst (IsOperand other.ts) last.1 other.is))

alone : (found : ArgumentTerm × List Piece) (only : ArgumentTerm) → if_alone found ≡ Some only → (found.0 ≡ only) × (found.1 ≡ [])
alone (first, []) only e = (some_is first only e, refl)
alone (first, p ∷ ps) only e = absurd cc

pub call_of_one_taken : (word letters : List ℕ) (ps : List Piece) (only : ArgumentTerm)
    → same_letters letters word ≡ true
    → one_argument ps ≡ Some only
    → IsCallOfOne word (name letters ∷ terms ps) only
unfolding one_argument
call_of_one_taken word letters ps only is e =
    let f = there_some (argument_at ps) if_alone only e in
    let one = operand_taken ps f.0.1 f.0.0 f.1 in
    let last = alone f.0 only f.2 in
    let parts : terms ps ≡ one.ts = one.parts ∙ ap (λ (l : List Piece). one.ts ++ terms l) last.1 ∙ append-nil one.ts in
    rw parts (cells.call_of_one letters one.ts only is (subst (IsOperand one.ts) last.0 one.is))

-- ---- whole calls

-- a word, and what comes after it
pub record Called (word : List ℕ) (ps : List Piece) (both : ArgumentTerm × ArgumentTerm) : Type 0 where
  pub letters : List ℕ
  pub rest : List Piece
  pub word_is : same_letters letters word ≡ true
  pub named : name_at ps ≡ Some (letters, rest)
  pub two : two_arguments rest ≡ Some both

pub called : (word : List ℕ) (ts : List Term) (a b : ArgumentTerm) → IsCall word ts a b → (ps : List Piece) → terms ps ≡ ts → Called word ps (a, b)
unfolding name_at
called word _ _ _ (cells.call letters a b first second is is_first is_second) ps e =
    let f = front ps (name letters) (a ++ symbol Comma ∷ b) e in
    record {
      letters = letters;
      rest = f.rest;
      word_is = is;
      named = ap name_at f.parts ∙ ap (λ (t : Term). name_then t f.rest) f.is;
      two = two_found a b first second is_first is_second f.rest f.after_it;
    }

-- the same with one operand
pub record CalledWithOne (word : List ℕ) (ps : List Piece) (only : ArgumentTerm) : Type 0 where
  pub letters : List ℕ
  pub rest : List Piece
  pub word_is : same_letters letters word ≡ true
  pub named : name_at ps ≡ Some (letters, rest)
  pub one : one_argument rest ≡ Some only

pub called_with_one : (word : List ℕ) (ts : List Term) (a : ArgumentTerm) → IsCallOfOne word ts a → (ps : List Piece) → terms ps ≡ ts → CalledWithOne word ps a
unfolding name_at
called_with_one word _ _ (cells.call_of_one letters a only is is_operand) ps e =
    let f = front ps (name letters) a e in
    record {
      letters = letters;
      rest = f.rest;
      word_is = is;
      named = ap name_at f.parts ∙ ap (λ (t : Term). name_then t f.rest) f.is;
      one = one_found a only is_operand f.rest f.after_it;
    }
