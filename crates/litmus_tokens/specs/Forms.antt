-- The instructions as they are spelled in cells: one form for each, by the operands that it takes.
use Rattle.std.specs.Prelude.{ℕ, Bool, ◌||◌, List, [], ◌∷◌, codes, Option, Some, None, if◌then◌else◌}
use Rattle.tso_terms.specs.Registers.{same_letters}
use Rattle.tso_terms.specs.declared.action.Operator.{Operator}
use Rattle.tso_terms.specs.declared.action.Operator.TheVariants.{Add, Subtract, And, Or, Xor}
use Rattle.litmus_tokens.specs.Pieces.{Piece}
use Rattle.litmus_tokens.specs.Front.{name_at}
use Rattle.litmus_tokens.specs.Faults.{there}
use Rattle.litmus_tokens.specs.Arguments.{ArgumentTerm, in_memory, in_register, constant, one_argument, two_arguments}
use Rattle.litmus_tokens.specs.Shapes.{Shape, store_imm, store_reg, load, set_imm, set_reg, fence, xchg, xadd, compare_exchange}
use Rattle.litmus_tokens.specs.Shapes.{locked_constant, locked_register, locked_negate, combine_constant, combine_register, negate, swap}
use Rattle.litmus_tokens.specs.Shapes.{nothing}
use Rattle.litmus_tokens.specs.declared.instructions.Instructions.{Instructions}
use Rattle.litmus_tokens.specs.declared.instructions.Instructions.TheVariants.{Basic, All}

-- `MOV` of two operands
abbrev pub mov_of : ArgumentTerm × ArgumentTerm → Option Shape
mov_of (in_memory x, constant v) = Some (store_imm x v)
mov_of (in_memory x, in_register r) = Some (store_reg x r)
mov_of (in_register r, in_memory x) = Some (load r x)
mov_of (in_register r, constant v) = Some (set_imm r v)
mov_of (in_register r, in_register s) = Some (set_reg r s)
mov_of others = None

-- `XCHG` of two operands, a location and a register in either order
abbrev pub xchg_of : ArgumentTerm × ArgumentTerm → Option Shape
xchg_of (in_memory x, in_register r) = Some (xchg x r)
xchg_of (in_register r, in_memory x) = Some (xchg x r)
xchg_of others = None

-- `XADD` of two operands, a location and a register
abbrev pub xadd_of : ArgumentTerm × ArgumentTerm → Option Shape
xadd_of (in_memory x, in_register r) = Some (xadd x r)
xadd_of others = None

abbrev pub no_more : Shape → List Piece → Option Shape
no_more shape [] = Some shape
no_more shape (p ∷ ps) = None

-- ---- the larger set

-- what this gives, in the larger set alone
abbrev pub if_all : Instructions → Option Shape → Option Shape
if_all Basic shape = None
if_all All shape = shape

-- `XCHG` of two registers
abbrev pub swap_of : ArgumentTerm × ArgumentTerm → Option Shape
swap_of (in_register r, in_register s) = Some (swap r s)
swap_of others = None

-- `CMPXCHG` of two operands, a location and a register
abbrev pub cmpxchg_of : ArgumentTerm × ArgumentTerm → Option Shape
cmpxchg_of (in_memory x, in_register r) = Some (compare_exchange x r)
cmpxchg_of others = None

-- the operator of a mnemonic with two operands
abbrev pub operator_named : List ℕ → Option Operator
operator_named word =
    if same_letters word (codes "ADD") then Some Add
    else if same_letters word (codes "SUB") then Some Subtract
    else if same_letters word (codes "AND") then Some And
    else if same_letters word (codes "OR") then Some Or
    else if same_letters word (codes "XOR") then Some Xor
    else None

-- the operator of a mnemonic with one operand, and its second value
abbrev pub step_named : List ℕ → Option (Operator × ℕ)
step_named word =
    if same_letters word (codes "INC") then Some (Add, 1)
    else if same_letters word (codes "DEC") then Some (Subtract, 1)
    else if same_letters word (codes "NOT") then Some (Xor, 4294967295)
    else None

-- two operands of a locked operator, and of one on registers
abbrev pub locked_of : Operator → ArgumentTerm × ArgumentTerm → Option Shape
locked_of operator (in_memory x, constant v) = Some (locked_constant operator x v)
locked_of operator (in_memory x, in_register r) = Some (locked_register operator x r)
locked_of operator others = None

abbrev pub combine_of : Operator → ArgumentTerm × ArgumentTerm → Option Shape
combine_of operator (in_register r, constant v) = Some (combine_constant operator r v)
combine_of operator (in_register r, in_register s) = Some (combine_register operator r s)
combine_of operator others = None

-- the one operand of the same
abbrev pub locked_step : Operator × ℕ → ArgumentTerm → Option Shape
locked_step step (in_memory x) = Some (locked_constant step.0 x step.1)
locked_step step other = None

abbrev pub combine_step : Operator × ℕ → ArgumentTerm → Option Shape
combine_step step (in_register r) = Some (combine_constant step.0 r step.1)
combine_step step other = None

-- the one operand of `NEG`, locked and on registers
abbrev pub locked_neg : ArgumentTerm → Option Shape
locked_neg (in_memory x) = Some (locked_negate x)
locked_neg other = None

abbrev pub neg_of : ArgumentTerm → Option Shape
neg_of (in_register r) = Some (negate r)
neg_of other = None

-- what may stand after `LOCK`
abbrev pub locked_more : List ℕ × List Piece → Option Shape
locked_more word =
    if same_letters word.0 (codes "CMPXCHG") then there (two_arguments word.1) cmpxchg_of None
    else if same_letters word.0 (codes "NEG") then there (one_argument word.1) locked_neg None
    else there (operator_named word.0) (λ operator. there (two_arguments word.1) (locked_of operator) None)
    (there (step_named word.0) (λ step. there (one_argument word.1) (locked_step step) None) None)

-- a mnemonic of what does nothing here
abbrev pub is_no_operation : List ℕ → Bool
is_no_operation word =
    same_letters word (codes "NOP") || same_letters word (codes "PAUSE") || same_letters word (codes "LFENCE")
    || same_letters word (codes "SFENCE")

-- its further mnemonics
abbrev pub more_by : List ℕ × List Piece → Option Shape
more_by word =
    if is_no_operation word.0 then no_more nothing word.1
    else if same_letters word.0 (codes "NEG") then there (one_argument word.1) neg_of None
    else there (operator_named word.0) (λ operator. there (two_arguments word.1) (combine_of operator) None)
    (there (step_named word.0) (λ step. there (one_argument word.1) (combine_step step) None) None)

-- ---- a whole cell

-- `XCHG` of two operands
abbrev pub exchange_of : Instructions → ArgumentTerm × ArgumentTerm → Option Shape
exchange_of set operands = there (xchg_of operands) (λ shape. Some shape) (if_all set (swap_of operands))

abbrev pub locked_by : Instructions → List ℕ × List Piece → Option Shape
locked_by set word =
    if same_letters word.0 (codes "XCHG") then there (two_arguments word.1) xchg_of None
    else if same_letters word.0 (codes "XADD") then there (two_arguments word.1) xadd_of None
    else if_all set (locked_more word)

-- what may stand after `LOCK`
unfoldable pub locked_at : Instructions → List Piece → Option Shape
locked_at set ps = there (name_at ps) (locked_by set) None

abbrev pub by_mnemonic : Instructions → List ℕ × List Piece → Option Shape
by_mnemonic set word =
    if same_letters word.0 (codes "MOV") then there (two_arguments word.1) mov_of None
    else if same_letters word.0 (codes "MFENCE") then no_more fence word.1
    else if same_letters word.0 (codes "XCHG") then there (two_arguments word.1) (exchange_of set) None
    else if same_letters word.0 (codes "LOCK") then locked_at set word.1
    else if_all set (more_by word)

-- the instruction that a whole cell spells
unfoldable pub spelled_in : Instructions → List Piece → Option Shape
spelled_in set ps = there (name_at ps) (by_mnemonic set) None
