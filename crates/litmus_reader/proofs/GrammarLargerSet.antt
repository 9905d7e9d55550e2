-- Cells of the larger set are read as they are spelled.
use Rattle.litmus_reader.proofs.Vocabulary.{◌≡◌, ℕ, true, cond, List, [], ◌∷◌, map, Some, None, refl, ap, subst, ◌∙◌, inl, inr, codes}
use Rattle.litmus_reader.proofs.Vocabulary.{to_ascii_lowercase, bytes_eq-Decides, same_letters, Term, name, Piece, name_at, there}
use Rattle.litmus_reader.proofs.Vocabulary.{ArgumentTerm, in_memory, in_register, constant, two_arguments, no_more, locked_by, by_mnemonic}
use Rattle.litmus_reader.proofs.Vocabulary.{locked_at, spelled_in, terms, IsCall, Shape, name_then, Instructions, one_argument, if_all}
use Rattle.litmus_reader.proofs.Vocabulary.{swap_of, cmpxchg_of, operator_named, step_named, locked_of, combine_of, locked_step}
use Rattle.litmus_reader.proofs.Vocabulary.{combine_step, locked_neg, neg_of, locked_more, is_no_operation, more_by, IsCallOfOne}
use Rattle.litmus_reader.proofs.Vocabulary.{IsOperator, IsStep, DoesNothing, IsLockedMore, IsCellMore, Option, Bool, ◌||◌}
use Rattle.litmus_tokens.specs.declared.instructions.Instructions.TheVariants.{All, Basic}
use Rattle.std.proofs.lemmas.Bool.{or_cases}
use Rattle.litmus_reader.specs.GrammarCells as cells
use Rattle.litmus_tokens.specs.Shapes.{compare_exchange, locked_constant, locked_register, locked_negate, combine_constant, combine_register, negate, swap}
use Rattle.litmus_tokens.specs.Shapes as shapes
use Rattle.tso_terms.specs.declared.action.Operator.{Operator}
use Rattle.tso_terms.specs.declared.action.Operator.TheVariants as operator
use Rattle.litmus_reader.proofs.GrammarTokens.{chosen, there_is, there_some, some_is, front, no_terms}
use Rattle.litmus_reader.proofs.GrammarOperands.{call_taken, call_of_one_taken, called, called_with_one}

-- ---- the larger set

-- what the larger set alone gives
pub given_by_all : (set : Instructions) (o : Option Shape) (shape : Shape) → if_all set o ≡ Some shape → (set ≡ All) × (o ≡ Some shape)
given_by_all Basic o shape e = absurd cc
given_by_all All o shape e = (refl, e)

-- which operator a mnemonic has
record HasOperator (letters : List ℕ) (o : Operator) : Type 0 where
  pub word : List ℕ
  pub same : same_letters letters word ≡ true
  pub is : IsOperator word o

operator_of : (letters : List ℕ) (o : Operator) → operator_named letters ≡ Some o → HasOperator letters o
operator_of letters o e =
    elim (chosen (same_letters letters (codes "ADD")) (Some operator.Add) _ (Some o) e) [
      | inl hit ↦ record { word = codes "ADD"; same = hit.0; is = subst (IsOperator (codes "ADD")) (some_is operator.Add o hit.1) cells.adds_both }
      | inr no_add ↦ elim (chosen (same_letters letters (codes "SUB")) (Some operator.Subtract) _ (Some o) no_add.1) [
        | inl hit ↦ record { word = codes "SUB"; same = hit.0; is = subst (IsOperator (codes "SUB")) (some_is operator.Subtract o hit.1) cells.subtracts }
        | inr no_sub ↦ elim (chosen (same_letters letters (codes "AND")) (Some operator.And) _ (Some o) no_sub.1) [
          | inl hit ↦ record { word = codes "AND"; same = hit.0; is = subst (IsOperator (codes "AND")) (some_is operator.And o hit.1) cells.ands }
          | inr no_and ↦ elim (chosen (same_letters letters (codes "OR")) (Some operator.Or) _ (Some o) no_and.1) [
            | inl hit ↦ record { word = codes "OR"; same = hit.0; is = subst (IsOperator (codes "OR")) (some_is operator.Or o hit.1) cells.ors }
            | inr no_or ↦ elim (chosen (same_letters letters (codes "XOR")) (Some operator.Xor) None (Some o) no_or.1) [
              | inl hit ↦ record { word = codes "XOR"; same = hit.0; is = subst (IsOperator (codes "XOR")) (some_is operator.Xor o hit.1) cells.xors }
              | inr none ↦ absurd cc
            ]
          ]
        ]
      ]
    ]

-- the same of a mnemonic with one operand
record HasStep (letters : List ℕ) (step : Operator × ℕ) : Type 0 where
  pub word : List ℕ
  pub same : same_letters letters word ≡ true
  pub is : IsStep word step.0 step.1

step_of : (letters : List ℕ) (step : Operator × ℕ) → step_named letters ≡ Some step → HasStep letters step
step_of letters step e =
    elim (chosen (same_letters letters (codes "INC")) (Some (operator.Add, 1)) _ (Some step) e) [
      | inl hit ↦ record {
        word = codes "INC";
        same = hit.0;
        is =
            subst (λ (s : Operator × ℕ). IsStep (codes "INC") s.0 s.1) (some_is (operator.Add, 1) step hit.1) cells.increments;
      }
      | inr no_inc ↦ elim (chosen (same_letters letters (codes "DEC")) (Some (operator.Subtract, 1)) _ (Some step) no_inc.1) [
        | inl hit ↦ record {
          word = codes "DEC";
          same = hit.0;
          is =
              subst (λ (s : Operator × ℕ). IsStep (codes "DEC") s.0 s.1) (some_is (operator.Subtract, 1) step hit.1) cells.decrements;
        }
        | inr no_dec ↦ elim (chosen (same_letters letters (codes "NOT")) (Some (operator.Xor, 4294967295)) None (Some step) no_dec.1) [
          | inl hit ↦ record {
            word = codes "NOT";
            same = hit.0;
            is =
                subst (λ (s : Operator × ℕ). IsStep (codes "NOT") s.0 s.1) (some_is (operator.Xor, 4294967295) step hit.1) cells.complements;
          }
          | inr none ↦ absurd cc
        ]
      ]
    ]

-- what does nothing
record HasNoOperation (letters : List ℕ) : Type 0 where
  pub word : List ℕ
  pub same : same_letters letters word ≡ true
  pub is : DoesNothing word

no_operation_of : (letters : List ℕ) → is_no_operation letters ≡ true → HasNoOperation letters
no_operation_of letters e =
    let is : List ℕ → Bool = same_letters letters in
    elim (or_cases ((is (codes "NOP") || is (codes "PAUSE")) || is (codes "LFENCE")) (is (codes "SFENCE")) e) [
      | inl three ↦ elim (or_cases (is (codes "NOP") || is (codes "PAUSE")) (is (codes "LFENCE")) three) [
        | inl two ↦ elim (or_cases (is (codes "NOP")) (is (codes "PAUSE")) two) [
          | inl hit ↦ record { word = codes "NOP"; same = hit; is = cells.no_operation }
          | inr hit ↦ record { word = codes "PAUSE"; same = hit; is = cells.pauses }
        ]
        | inr hit ↦ record { word = codes "LFENCE"; same = hit; is = cells.fences_loads }
      ]
      | inr hit ↦ record { word = codes "SFENCE"; same = hit; is = cells.fences_stores }
    ]

-- which instructions the operands of a locked instruction of the larger set spell
compare_taken : (both : ArgumentTerm × ArgumentTerm) (shape : Shape)
    → cmpxchg_of both ≡ Some shape
    → (ts : List Term) → IsCall (codes "CMPXCHG") ts both.0 both.1
    → IsLockedMore ts shape
compare_taken (in_memory x, in_register r) shape e ts is = subst (IsLockedMore ts) (some_is (compare_exchange x r) shape e) (cells.compares ts x r is)
compare_taken (in_memory x, in_memory y) shape e ts is = absurd cc
compare_taken (in_memory x, constant v) shape e ts is = absurd cc
compare_taken (in_register r, other) shape e ts is = absurd cc
compare_taken (constant v, other) shape e ts is = absurd cc

locked_operator_taken : (word : List ℕ) (o : Operator)
    → IsOperator word o
    → (both : ArgumentTerm × ArgumentTerm) (shape : Shape)
    → locked_of o both ≡ Some shape
    → (ts : List Term) → IsCall word ts both.0 both.1 → IsLockedMore ts shape
locked_operator_taken word o of (in_memory x, constant v) shape e ts is =
    subst (IsLockedMore ts) (some_is (locked_constant o x v) shape e) (cells.combines_constant word o ts x v of is)
locked_operator_taken word o of (in_memory x, in_register r) shape e ts is =
    subst (IsLockedMore ts) (some_is (locked_register o x r) shape e) (cells.combines_register word o ts x r of is)
locked_operator_taken word o of (in_memory x, in_memory y) shape e ts is = absurd cc
locked_operator_taken word o of (in_register r, other) shape e ts is = absurd cc
locked_operator_taken word o of (constant v, other) shape e ts is = absurd cc

locked_step_taken : (word : List ℕ) (step : Operator × ℕ)
    → IsStep word step.0 step.1
    → (only : ArgumentTerm) (shape : Shape)
    → locked_step step only ≡ Some shape
    → (ts : List Term) → IsCallOfOne word ts only → IsLockedMore ts shape
locked_step_taken word step of (in_memory x) shape e ts is =
    subst (IsLockedMore ts) (some_is (locked_constant step.0 x step.1) shape e) (cells.steps word step.0 step.1 ts x of is)
locked_step_taken word step of (in_register r) shape e ts is = absurd cc
locked_step_taken word step of (constant v) shape e ts is = absurd cc

locked_neg_taken : (only : ArgumentTerm) (shape : Shape)
    → locked_neg only ≡ Some shape
    → (ts : List Term) → IsCallOfOne (codes "NEG") ts only
    → IsLockedMore ts shape
locked_neg_taken (in_memory x) shape e ts is = subst (IsLockedMore ts) (some_is (locked_negate x) shape e) (cells.negates ts x is)
locked_neg_taken (in_register r) shape e ts is = absurd cc
locked_neg_taken (constant v) shape e ts is = absurd cc

-- and those of the others
combine_taken : (word : List ℕ) (o : Operator) → IsOperator word o → (both : ArgumentTerm × ArgumentTerm) (shape : Shape) → combine_of o both ≡ Some shape
    → (ts : List Term) → IsCall word ts both.0 both.1 → IsCellMore ts shape
combine_taken word o of (in_register r, constant v) shape e ts is =
    subst (IsCellMore ts) (some_is (combine_constant o r v) shape e) (cells.adds_constant word o ts r v of is)
combine_taken word o of (in_register r, in_register s) shape e ts is =
    subst (IsCellMore ts) (some_is (combine_register o r s) shape e) (cells.adds_register word o ts r s of is)
combine_taken word o of (in_register r, in_memory x) shape e ts is = absurd cc
combine_taken word o of (in_memory x, other) shape e ts is = absurd cc
combine_taken word o of (constant v, other) shape e ts is = absurd cc

combine_step_taken : (word : List ℕ) (step : Operator × ℕ)
    → IsStep word step.0 step.1
    → (only : ArgumentTerm) (shape : Shape)
    → combine_step step only ≡ Some shape
    → (ts : List Term) → IsCallOfOne word ts only → IsCellMore ts shape
combine_step_taken word step of (in_register r) shape e ts is =
    subst (IsCellMore ts) (some_is (combine_constant step.0 r step.1) shape e) (cells.steps_register word step.0 step.1 ts r of is)
combine_step_taken word step of (in_memory x) shape e ts is = absurd cc
combine_step_taken word step of (constant v) shape e ts is = absurd cc

neg_taken : (only : ArgumentTerm) (shape : Shape) → neg_of only ≡ Some shape → (ts : List Term) → IsCallOfOne (codes "NEG") ts only → IsCellMore ts shape
neg_taken (in_register r) shape e ts is = subst (IsCellMore ts) (some_is (negate r) shape e) (cells.negates_register ts r is)
neg_taken (in_memory x) shape e ts is = absurd cc
neg_taken (constant v) shape e ts is = absurd cc

pub swap_taken : (both : ArgumentTerm × ArgumentTerm) (shape : Shape)
    → swap_of both ≡ Some shape
    → (ts : List Term) → IsCall (codes "XCHG") ts both.0 both.1
    → IsCellMore ts shape
swap_taken (in_register r, in_register s) shape e ts is = subst (IsCellMore ts) (some_is (swap r s) shape e) (cells.swaps ts r s is)
swap_taken (in_register r, in_memory x) shape e ts is = absurd cc
swap_taken (in_register r, constant v) shape e ts is = absurd cc
swap_taken (in_memory x, other) shape e ts is = absurd cc
swap_taken (constant v, other) shape e ts is = absurd cc

nothing_taken : (letters : List ℕ)
    → HasNoOperation letters
    → (ps : List Piece) (shape : Shape)
    → no_more shapes.nothing ps ≡ Some shape
    → IsCellMore (name letters ∷ terms ps) shape
nothing_taken letters h [] shape e = subst (IsCellMore _) (some_is shapes.nothing shape e) (cells.does_nothing letters h.word h.is h.same)
nothing_taken letters h (p ∷ ps) shape e = absurd cc

-- ---- found

-- words with the same letters are read alike
same_lower : (letters word : List ℕ) → same_letters letters word ≡ true → map to_ascii_lowercase letters ≡ map to_ascii_lowercase word
same_lower letters word is = (bytes_eq-Decides (map to_ascii_lowercase letters) (map to_ascii_lowercase word)).0 is

locked_alike : (letters word : List ℕ) (rest : List Piece) → same_letters letters word ≡ true → locked_by All (letters, rest) ≡ locked_by All (word, rest)
locked_alike letters word rest is = rw (same_lower letters word is) refl

mnemonics_alike : (letters word : List ℕ) (rest : List Piece)
    → same_letters letters word ≡ true
    → by_mnemonic All (letters, rest) ≡ by_mnemonic All (word, rest)
mnemonics_alike letters word rest is = rw (same_lower letters word is) refl

locked_operator : (word : List ℕ) (o : Operator) → IsOperator word o → (rest : List Piece) (both : ArgumentTerm × ArgumentTerm) (shape : Shape)
    → two_arguments rest ≡ Some both → locked_of o both ≡ Some shape → locked_by All (word, rest) ≡ Some shape
locked_operator _ _ cells.adds_both rest both shape two made = rw two made
locked_operator _ _ cells.subtracts rest both shape two made = rw two made
locked_operator _ _ cells.ands rest both shape two made = rw two made
locked_operator _ _ cells.ors rest both shape two made = rw two made
locked_operator _ _ cells.xors rest both shape two made = rw two made

locked_by_step : (word : List ℕ) (o : Operator) (v : ℕ) → IsStep word o v → (rest : List Piece) (only : ArgumentTerm) (shape : Shape)
    → one_argument rest ≡ Some only → locked_step (o, v) only ≡ Some shape → locked_by All (word, rest) ≡ Some shape
locked_by_step _ _ _ cells.increments rest only shape one made = rw one made
locked_by_step _ _ _ cells.decrements rest only shape one made = rw one made
locked_by_step _ _ _ cells.complements rest only shape one made = rw one made

by_operator : (word : List ℕ) (o : Operator) → IsOperator word o → (rest : List Piece) (both : ArgumentTerm × ArgumentTerm) (shape : Shape)
    → two_arguments rest ≡ Some both → combine_of o both ≡ Some shape → by_mnemonic All (word, rest) ≡ Some shape
by_operator _ _ cells.adds_both rest both shape two made = rw two made
by_operator _ _ cells.subtracts rest both shape two made = rw two made
by_operator _ _ cells.ands rest both shape two made = rw two made
by_operator _ _ cells.ors rest both shape two made = rw two made
by_operator _ _ cells.xors rest both shape two made = rw two made

by_step : (word : List ℕ) (o : Operator) (v : ℕ) → IsStep word o v → (rest : List Piece) (only : ArgumentTerm) (shape : Shape)
    → one_argument rest ≡ Some only → combine_step (o, v) only ≡ Some shape → by_mnemonic All (word, rest) ≡ Some shape
by_step _ _ _ cells.increments rest only shape one made = rw one made
by_step _ _ _ cells.decrements rest only shape one made = rw one made
by_step _ _ _ cells.complements rest only shape one made = rw one made

doing_nothing : (word : List ℕ) → DoesNothing word → (rest : List Piece) → rest ≡ [] → by_mnemonic All (word, rest) ≡ Some shapes.nothing
doing_nothing _ cells.no_operation rest none = rw none refl
doing_nothing _ cells.pauses rest none = rw none refl
doing_nothing _ cells.fences_loads rest none = rw none refl
doing_nothing _ cells.fences_stores rest none = rw none refl

-- a word at the front is read by its letters
locked_named : (word : List ℕ) (ps : List Piece) (letters : List ℕ) (rest : List Piece) (shape : Shape)
    → name_at ps ≡ Some (letters, rest)
    → same_letters letters word ≡ true
    → locked_by All (word, rest) ≡ Some shape → locked_at All ps ≡ Some shape
unfolding locked_at
locked_named word ps letters rest shape named is made = rw named (locked_alike letters word rest is ∙ made)

cell_named : (word : List ℕ) (ps : List Piece) (letters : List ℕ) (rest : List Piece) (shape : Shape)
    → name_at ps ≡ Some (letters, rest)
    → same_letters letters word ≡ true
    → by_mnemonic All (word, rest) ≡ Some shape → spelled_in All ps ≡ Some shape
unfolding spelled_in
cell_named word ps letters rest shape named is made = rw named (mnemonics_alike letters word rest is ∙ made)

pub locked_more_found : (ts : List Term) (shape : Shape) → IsLockedMore ts shape → (ps : List Piece) → terms ps ≡ ts → locked_at All ps ≡ Some shape
locked_more_found _ _ (cells.compares ts x r is) ps e =
    let c = called (codes "CMPXCHG") ts (in_memory x) (in_register r) is ps e in
    locked_named (codes "CMPXCHG") ps c.letters c.rest (compare_exchange x r) c.named c.word_is (rw c.two refl)
locked_more_found _ _ (cells.combines_constant word o ts x v of is) ps e =
    let c = called word ts (in_memory x) (constant v) is ps e in
    locked_named word ps c.letters c.rest (locked_constant o x v) c.named c.word_is
    (locked_operator word o of c.rest (in_memory x, constant v) (locked_constant o x v) c.two refl)
locked_more_found _ _ (cells.combines_register word o ts x r of is) ps e =
    let c = called word ts (in_memory x) (in_register r) is ps e in
    locked_named word ps c.letters c.rest (locked_register o x r) c.named c.word_is
    (locked_operator word o of c.rest (in_memory x, in_register r) (locked_register o x r) c.two refl)
locked_more_found _ _ (cells.steps word o v ts x of is) ps e =
    let c = called_with_one word ts (in_memory x) is ps e in
    locked_named word ps c.letters c.rest (locked_constant o x v) c.named c.word_is
    (locked_by_step word o v of c.rest (in_memory x) (locked_constant o x v) c.one refl)
locked_more_found _ _ (cells.negates ts x is) ps e =
    let c = called_with_one (codes "NEG") ts (in_memory x) is ps e in
    locked_named (codes "NEG") ps c.letters c.rest (locked_negate x) c.named c.word_is (rw c.one refl)

pub more_found : (ts : List Term) (shape : Shape) → IsCellMore ts shape → (ps : List Piece) → terms ps ≡ ts → spelled_in All ps ≡ Some shape
unfolding name_at
more_found _ _ (cells.adds_constant word o ts r v of is) ps e =
    let c = called word ts (in_register r) (constant v) is ps e in
    cell_named word ps c.letters c.rest (combine_constant o r v) c.named c.word_is
    (by_operator word o of c.rest (in_register r, constant v) (combine_constant o r v) c.two refl)
more_found _ _ (cells.adds_register word o ts r s of is) ps e =
    let c = called word ts (in_register r) (in_register s) is ps e in
    cell_named word ps c.letters c.rest (combine_register o r s) c.named c.word_is
    (by_operator word o of c.rest (in_register r, in_register s) (combine_register o r s) c.two refl)
more_found _ _ (cells.steps_register word o v ts r of is) ps e =
    let c = called_with_one word ts (in_register r) is ps e in
    cell_named word ps c.letters c.rest (combine_constant o r v) c.named c.word_is
    (by_step word o v of c.rest (in_register r) (combine_constant o r v) c.one refl)
more_found _ _ (cells.negates_register ts r is) ps e =
    let c = called_with_one (codes "NEG") ts (in_register r) is ps e in
    cell_named (codes "NEG") ps c.letters c.rest (negate r) c.named c.word_is (rw c.one refl)
more_found _ _ (cells.swaps ts r s is) ps e =
    let c = called (codes "XCHG") ts (in_register r) (in_register s) is ps e in
    cell_named (codes "XCHG") ps c.letters c.rest (swap r s) c.named c.word_is (rw c.two refl)
more_found _ _ (cells.does_nothing letters word of is) ps e =
    let f = front ps (name letters) [] e in
    cell_named word ps letters f.rest shapes.nothing
    (ap name_at f.parts ∙ ap (λ (t : Term). name_then t f.rest) f.is) is
    (doing_nothing word of f.rest (no_terms f.rest f.after_it))

-- ---- taken

-- what the larger set has after `LOCK`
pub locked_more_taken : (word : List ℕ) (rest : List Piece) (shape : Shape)
    → locked_more (word, rest) ≡ Some shape
    → IsLockedMore (name word ∷ terms rest) shape
locked_more_taken word rest shape e =
    let at_step = there (step_named word) (λ (step : Operator × ℕ). there (one_argument rest) (locked_step step) None) None in
    let at_operator = there (operator_named word) (λ (o : Operator). there (two_arguments rest) (locked_of o) None) at_step in
    let at_neg = cond (same_letters word (codes "NEG")) (there (one_argument rest) locked_neg None) at_operator in
    elim (chosen (same_letters word (codes "CMPXCHG")) (there (two_arguments rest) cmpxchg_of None) at_neg (Some shape) e) [
      | inl hit ↦
          let two = there_some (two_arguments rest) cmpxchg_of shape hit.1 in
          compare_taken two.0 shape two.2 _ (call_taken (codes "CMPXCHG") word rest two.0 hit.0 two.1)
      | inr no_compare ↦ elim (chosen (same_letters word (codes "NEG")) (there (one_argument rest) locked_neg None) at_operator (Some shape) no_compare.1) [
        | inl hit ↦
            let one = there_some (one_argument rest) locked_neg shape hit.1 in
            locked_neg_taken one.0 shape one.2 _ (call_of_one_taken (codes "NEG") word rest one.0 hit.0 one.1)
        | inr no_neg ↦ elim (there_is (operator_named word) _ at_step (Some shape) no_neg.1) [
          | inl o ↦
              let h = operator_of word o.0 o.1 in
              let two = there_some (two_arguments rest) (locked_of o.0) shape o.2 in
              locked_operator_taken h.word o.0 h.is two.0 shape two.2 _ (call_taken h.word word rest two.0 h.same two.1)
          | inr no_operator ↦
              let step = there_some (step_named word) _ shape no_operator.1 in
              let h = step_of word step.0 step.1 in
              let one = there_some (one_argument rest) (locked_step step.0) shape step.2 in
              locked_step_taken h.word step.0 h.is one.0 shape one.2 _ (call_of_one_taken h.word word rest one.0 h.same one.1)
        ]
      ]
    ]

-- its further cells
pub more_taken : (word : List ℕ) (rest : List Piece) (shape : Shape) → more_by (word, rest) ≡ Some shape → IsCellMore (name word ∷ terms rest) shape
more_taken word rest shape e =
    let at_step = there (step_named word) (λ (step : Operator × ℕ). there (one_argument rest) (combine_step step) None) None in
    let at_operator = there (operator_named word) (λ (o : Operator). there (two_arguments rest) (combine_of o) None) at_step in
    let at_neg = cond (same_letters word (codes "NEG")) (there (one_argument rest) neg_of None) at_operator in
    elim (chosen (is_no_operation word) (no_more shapes.nothing rest) at_neg (Some shape) e) [
      | inl hit ↦ nothing_taken word (no_operation_of word hit.0) rest shape hit.1
      | inr some ↦ elim (chosen (same_letters word (codes "NEG")) (there (one_argument rest) neg_of None) at_operator (Some shape) some.1) [
        | inl hit ↦
            let one = there_some (one_argument rest) neg_of shape hit.1 in
            neg_taken one.0 shape one.2 _ (call_of_one_taken (codes "NEG") word rest one.0 hit.0 one.1)
        | inr no_neg ↦ elim (there_is (operator_named word) _ at_step (Some shape) no_neg.1) [
          | inl o ↦
              let h = operator_of word o.0 o.1 in
              let two = there_some (two_arguments rest) (combine_of o.0) shape o.2 in
              combine_taken h.word o.0 h.is two.0 shape two.2 _ (call_taken h.word word rest two.0 h.same two.1)
          | inr no_operator ↦
              let step = there_some (step_named word) _ shape no_operator.1 in
              let h = step_of word step.0 step.1 in
              let one = there_some (one_argument rest) (combine_step step.0) shape step.2 in
              combine_step_taken h.word step.0 h.is one.0 shape one.2 _ (call_of_one_taken h.word word rest one.0 h.same one.1)
        ]
      ]
    ]
