-- Which tokens spell which instruction in a cell: the x86 instructions as litmus tests write them. (Intel's manual, for
-- what they are; litmus7 and herd, for the form.)
use Rattle.std.specs.Prelude.{◌≡◌, ℕ, List, [], ◌∷◌, ◌++◌, codes, Some, IsTrue}
use Rattle.litmus_reader.specs.Vocabulary.{All, CloseSquare, combine_constant, combine_register, Comma, compare_exchange, Dollar, fence}
use Rattle.litmus_reader.specs.Vocabulary.{Instructions, is_location_name, load, locked_constant, locked_negate, locked_register, negate}
use Rattle.litmus_reader.specs.Vocabulary.{nothing, OpenSquare, Reg, register_named, same_letters, set_imm, set_reg, Shape, store_imm}
use Rattle.litmus_reader.specs.Vocabulary.{store_reg, swap, xadd, xchg}
use Rattle.tso_terms.specs.declared.action.Operator.{Operator}
use Rattle.tso_terms.specs.declared.action.Operator.TheVariants as operator
use Rattle.litmus_reader.specs.GrammarNumerals.{IsNumeral}
use Rattle.litmus_tokens.specs.Terms.{Term, name, symbol}
use Rattle.litmus_tokens.specs.Arguments.{ArgumentTerm, in_memory, in_register, constant}

-- an operand
pub data IsOperand : List Term → ArgumentTerm → Type 0 where
  -- `v`
  plain : (ts : List Term) (v : ℕ) → IsNumeral ts v → IsOperand ts (constant v)
  -- `$v`
  with_dollar : (ts : List Term) (v : ℕ) → IsNumeral ts v → IsOperand (symbol Dollar ∷ ts) (constant v)
  -- `[x]`
  in_squares : (x : List ℕ) → IsTrue (is_location_name x)
      → IsOperand (symbol OpenSquare ∷ name x ∷ symbol CloseSquare ∷ []) (in_memory x)
  -- `REG`
  named : (x : List ℕ) (r : Reg) → register_named x ≡ Some r → IsOperand (name x ∷ []) (in_register r)

-- this word, in any case of letters, and two operands with a comma between them
pub data IsCall (word : List ℕ) : List Term → ArgumentTerm → ArgumentTerm → Type 0 where
  call : (letters : List ℕ) (a b : List Term) (first second : ArgumentTerm) → IsTrue (same_letters letters word)
      → IsOperand a first → IsOperand b second → IsCall word (name letters ∷ a ++ symbol Comma ∷ b) first second

-- the operands of `MOV`, and the instruction that they spell
pub data IsMove : ArgumentTerm → ArgumentTerm → Shape → Type 0 where
  -- `[x],v` and `[x],$v`
  stores_constant : (x : List ℕ) (v : ℕ) → IsMove (in_memory x) (constant v) (store_imm x v)
  -- `[x],REG`
  stores_register : (x : List ℕ) (r : Reg) → IsMove (in_memory x) (in_register r) (store_reg x r)
  -- `REG,[x]`
  loads : (r : Reg) (x : List ℕ) → IsMove (in_register r) (in_memory x) (load r x)
  -- `REG,v` and `REG,$v`
  sets_constant : (r : Reg) (v : ℕ) → IsMove (in_register r) (constant v) (set_imm r v)
  -- `REG,REG`: the first from the second
  sets_register : (r s : Reg) → IsMove (in_register r) (in_register s) (set_reg r s)

-- the operands of `XCHG`: a location and a register, in either order
pub data IsExchange : ArgumentTerm → ArgumentTerm → Shape → Type 0 where
  -- `[x],REG`
  memory_first : (x : List ℕ) (r : Reg) → IsExchange (in_memory x) (in_register r) (xchg x r)
  -- `REG,[x]`
  register_first : (r : Reg) (x : List ℕ) → IsExchange (in_register r) (in_memory x) (xchg x r)

-- the operands of `XADD`: `[x],REG`
pub data IsAddition : ArgumentTerm → ArgumentTerm → Shape → Type 0 where
  adds : (x : List ℕ) (r : Reg) → IsAddition (in_memory x) (in_register r) (xadd x r)

-- ---- the larger set

-- this word, in any case of letters, and one operand
pub data IsCallOfOne (word : List ℕ) : List Term → ArgumentTerm → Type 0 where
  call_of_one : (letters : List ℕ) (a : List Term) (only : ArgumentTerm) → IsTrue (same_letters letters word) → IsOperand a only
      → IsCallOfOne word (name letters ∷ a) only

-- a mnemonic of two operands, and its operator
pub data IsOperator : List ℕ → Operator → Type 0 where
  adds_both : IsOperator (codes "ADD") operator.Add
  subtracts : IsOperator (codes "SUB") operator.Subtract
  ands : IsOperator (codes "AND") operator.And
  ors : IsOperator (codes "OR") operator.Or
  xors : IsOperator (codes "XOR") operator.Xor

-- a mnemonic of one operand, its operator and second value
pub data IsStep : List ℕ → Operator → ℕ → Type 0 where
  increments : IsStep (codes "INC") operator.Add 1
  decrements : IsStep (codes "DEC") operator.Subtract 1
  complements : IsStep (codes "NOT") operator.Xor 4294967295

-- a mnemonic of what does nothing here
pub data DoesNothing : List ℕ → Type 0 where
  no_operation : DoesNothing (codes "NOP")
  pauses : DoesNothing (codes "PAUSE")
  fences_loads : DoesNothing (codes "LFENCE")
  fences_stores : DoesNothing (codes "SFENCE")

-- what the larger set has after `LOCK`
pub data IsLockedMore : List Term → Shape → Type 0 where
  -- `CMPXCHG [x],REG`
  compares : (ts : List Term) (x : List ℕ) (r : Reg) → IsCall (codes "CMPXCHG") ts (in_memory x) (in_register r)
      → IsLockedMore ts (compare_exchange x r)
  -- `ADD [x],v`, `ADD [x],$v` and the like
  combines_constant : (word : List ℕ) (o : Operator) (ts : List Term) (x : List ℕ) (v : ℕ) → IsOperator word o
      → IsCall word ts (in_memory x) (constant v) → IsLockedMore ts (locked_constant o x v)
  -- `ADD [x],REG` and the like
  combines_register : (word : List ℕ) (o : Operator) (ts : List Term) (x : List ℕ) (r : Reg) → IsOperator word o
      → IsCall word ts (in_memory x) (in_register r) → IsLockedMore ts (locked_register o x r)
  -- `INC [x]` and the like
  steps : (word : List ℕ) (o : Operator) (v : ℕ) (ts : List Term) (x : List ℕ) → IsStep word o v
      → IsCallOfOne word ts (in_memory x) → IsLockedMore ts (locked_constant o x v)
  -- `NEG [x]`
  negates : (ts : List Term) (x : List ℕ) → IsCallOfOne (codes "NEG") ts (in_memory x) → IsLockedMore ts (locked_negate x)

-- its further cells
pub data IsCellMore : List Term → Shape → Type 0 where
  -- `ADD REG,v`, `ADD REG,$v` and the like
  adds_constant : (word : List ℕ) (o : Operator) (ts : List Term) (r : Reg) (v : ℕ) → IsOperator word o
      → IsCall word ts (in_register r) (constant v) → IsCellMore ts (combine_constant o r v)
  -- `ADD REG,REG` and the like
  adds_register : (word : List ℕ) (o : Operator) (ts : List Term) (r s : Reg) → IsOperator word o
      → IsCall word ts (in_register r) (in_register s) → IsCellMore ts (combine_register o r s)
  -- `INC REG` and the like
  steps_register : (word : List ℕ) (o : Operator) (v : ℕ) (ts : List Term) (r : Reg) → IsStep word o v
      → IsCallOfOne word ts (in_register r) → IsCellMore ts (combine_constant o r v)
  -- `NEG REG`
  negates_register : (ts : List Term) (r : Reg) → IsCallOfOne (codes "NEG") ts (in_register r) → IsCellMore ts (negate r)
  -- `XCHG REG,REG`
  swaps : (ts : List Term) (r s : Reg) → IsCall (codes "XCHG") ts (in_register r) (in_register s) → IsCellMore ts (swap r s)
  -- `NOP` and the like
  does_nothing : (letters word : List ℕ) → DoesNothing word → IsTrue (same_letters letters word) → IsCellMore (name letters ∷ []) nothing

-- ---- a whole cell

-- what may come after `LOCK`
pub data IsLocked (set : Instructions) : List Term → Shape → Type 0 where
  locked_exchange : (ts : List Term) (a b : ArgumentTerm) (shape : Shape) → IsCall (codes "XCHG") ts a b
      → IsExchange a b shape → IsLocked set ts shape
  locked_addition : (ts : List Term) (a b : ArgumentTerm) (shape : Shape) → IsCall (codes "XADD") ts a b
      → IsAddition a b shape → IsLocked set ts shape
  locked_more : (ts : List Term) (shape : Shape) → set ≡ All → IsLockedMore ts shape → IsLocked set ts shape

-- the tokens of a cell that isn't empty, and the instruction that they spell
pub data IsCell (set : Instructions) : List Term → Shape → Type 0 where
  moves : (ts : List Term) (a b : ArgumentTerm) (shape : Shape) → IsCall (codes "MOV") ts a b
      → IsMove a b shape → IsCell set ts shape
  fences : (letters : List ℕ) → IsTrue (same_letters letters (codes "MFENCE")) → IsCell set (name letters ∷ []) fence
  -- `XCHG`, also without `LOCK` before it
  exchanges : (ts : List Term) (a b : ArgumentTerm) (shape : Shape) → IsCall (codes "XCHG") ts a b
      → IsExchange a b shape → IsCell set ts shape
  locks : (letters : List ℕ) (ts : List Term) (shape : Shape) → IsTrue (same_letters letters (codes "LOCK"))
      → IsLocked set ts shape → IsCell set (name letters ∷ ts) shape
  more : (ts : List Term) (shape : Shape) → set ≡ All → IsCellMore ts shape → IsCell set ts shape
