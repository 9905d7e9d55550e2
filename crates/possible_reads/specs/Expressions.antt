-- What a register holds and what a write writes, told by what the reads of their core return: numbers, what a read returned, and what
-- instructions make of these.
use Rattle.std.specs.Prelude.{ℕ, ◌+◌, List, [], ◌∷◌, ◌++◌, map, if◌then◌else◌, Option, Some, None, slice_index_or, slice_set}
use Rattle.tso_terms.specs.Litmus.{Litmus}
use Rattle.tso_terms.specs.Registers.{index_of}
use Rattle.tso_terms.specs.Actions.{action_of}
use Rattle.tso_terms.specs.Thread.{entry}
use Rattle.basic_laws.specs.Types.{Reg, Eax, Instr, Operand, Number, Held, Operator, Update, Replace, Negate, CompareExchange, Change, Keep}
use Rattle.basic_laws.specs.Types.{Set, Swap, Action, Entry, R, W, LR, LW}
use Rattle.tso_terms.specs.declared.action.Update.TheVariants.{Combine}
use Rattle.tso_terms.specs.declared.action.Action.TheVariants.{Store, Load, Move, Lock}
use Rattle.refutation_laws.specs.Known.{same_event}

pub data Expression : Type 0 where
  Constant : (value : ℕ) → Expression
  Returned : (read : Entry) → Expression
  Combined : (operator : Operator) → (left right : Expression) → Expression
  -- zero without this, modulo 2^32
  Negated : (inner : Expression) → Expression
  -- the new value where the word is what EAX held, else the word
  Exchanged : (word eax new : Expression) → Expression

-- a write, and what it writes
pub record Written : Type 0 where
  pub write : Entry
  pub value : Expression

-- ---- a thread (as tso_terms's Thread line by line)

abbrev pub held_in : List Expression → Reg → Expression
held_in registers reg = slice_index_or registers (index_of reg) (Constant 0)

abbrev pub operand_in : List Expression → Operand → Expression
operand_in registers (Number value) = Constant value
operand_in registers (Held reg) = held_in registers reg

abbrev pub updated_by : Update → List Expression → Expression → Expression
updated_by (Replace operand) registers word = operand_in registers operand
updated_by (Combine operator operand) registers word = Combined operator word (operand_in registers operand)
updated_by Negate registers word = Negated word
updated_by (CompareExchange reg) registers word = Exchanged word (held_in registers Eax) (held_in registers reg)

abbrev pub changed_by : Change → List Expression → List Expression
changed_by Keep registers = registers
changed_by (Set reg update) registers = slice_set registers (index_of reg) (updated_by update registers (held_in registers reg))
changed_by (Swap reg other) registers = slice_set (slice_set registers (index_of reg) (held_in registers other)) (index_of other) (held_in registers reg)

abbrev pub taken_by : List Expression → Option Reg → Expression → List Expression
taken_by registers None word = registers
taken_by registers (Some reg) word = slice_set registers (index_of reg) word

abbrev pub written_by : ℕ → ℕ → Action → List Expression → List Written
written_by core place (Store loc operand) registers = record { write = entry core place W loc 0; value = operand_in registers operand } ∷ []
written_by core place (Lock loc target update) registers =
    record { write = entry core place LW loc 0; value = updated_by update registers (Returned (entry core place LR loc 0)) } ∷ []
written_by core place _ registers = []

abbrev pub registers_after_action : ℕ → ℕ → Action → List Expression → List Expression
registers_after_action core place (Load reg loc) registers = slice_set registers (index_of reg) (Returned (entry core place R loc 0))
registers_after_action core place (Move change) registers = changed_by change registers
registers_after_action core place (Lock loc target update) registers = taken_by registers target (Returned (entry core place LR loc 0))
registers_after_action core place _ registers = registers

-- the writes of a program
abbrev pub written_in : ℕ → ℕ → List Instr → List Expression → List Written
written_in core place [] registers = []
written_in core place (i ∷ rest) registers =
    written_by core place (action_of i) registers
    ++ written_in core (place + 1) rest (registers_after_action core place (action_of i) registers)

-- the registers after it
abbrev pub registers_at_end : ℕ → ℕ → List Instr → List Expression → List Expression
registers_at_end core place [] registers = registers
registers_at_end core place (i ∷ rest) registers =
    registers_at_end core (place + 1) rest (registers_after_action core place (action_of i) registers)

-- ---- all threads

abbrev pub first_registers : List (List ℕ) → ℕ → List Expression
first_registers registers core = map (λ value. Constant value) (slice_index_or registers core [])

abbrev pub written_from : ℕ → List (List Instr) → List (List ℕ) → List Written
written_from core [] registers = []
written_from core (p ∷ ps) registers = written_in core 0 p (first_registers registers core) ++ written_from (core + 1) ps registers

abbrev pub written : Litmus → List Written
written t = written_from 0 t.programs t.registers

-- what a write of these writes
abbrev pub expression_among : List Written → Entry → Expression
expression_among [] write = Constant 0
expression_among (x ∷ xs) write = if same_event x.write write then x.value else expression_among xs write

abbrev pub expression_of : Litmus → Entry → Expression
expression_of t write = expression_among (written t) write

-- what a register holds at the end
abbrev pub register_left : Litmus → ℕ → Reg → Expression
register_left t core reg = held_in (registers_at_end core 0 (slice_index_or t.programs core []) (first_registers t.registers core)) reg
