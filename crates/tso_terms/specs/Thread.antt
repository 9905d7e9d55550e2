-- What a core's program does, given the values that its reads return.
-- (x86-TSO, section 3: a thread's memory actions; the instructions by Intel's manual.)
use Rattle.std.specs.Prelude.{ℕ, ◌+◌, ◌-◌, ◌%◌, ◌^◌, ◌==◌, suc, Bool, true, false, if◌then◌else◌, Option, Some, None, List, [], ◌∷◌, ◌++◌}
use Rattle.std.specs.Prelude.{slice_index, slice_index_or, slice_set, drop}
use Rattle.tso_terms.specs.Registers.{index_of}
use Rattle.tso_terms.specs.Actions.{action_of}
use Rattle.tso_terms.specs.Litmus.{Litmus}
use Rattle.tso_terms.specs.declared.register.Reg.{Reg}
use Rattle.tso_terms.specs.declared.instruction.Loc.{Loc}
use Rattle.tso_terms.specs.declared.instruction.Instr.{Instr}
use Rattle.tso_terms.specs.declared.action.Operand.{Operand}
use Rattle.tso_terms.specs.declared.action.Operand.TheVariants.{Number, Held}
use Rattle.std.specs.Int.Bits.{bit_and, bit_or, bit_xor}
use Rattle.tso_terms.specs.declared.register.Reg.TheVariants.{Eax}
use Rattle.tso_terms.specs.declared.action.Operator.{Operator}
use Rattle.tso_terms.specs.declared.action.Operator.TheVariants.{Add, Subtract, And, Or, Xor}
use Rattle.tso_terms.specs.declared.action.Update.{Update}
use Rattle.tso_terms.specs.declared.action.Update.TheVariants.{Replace, Combine, Negate, CompareExchange}
use Rattle.tso_terms.specs.declared.action.Change.{Change}
use Rattle.tso_terms.specs.declared.action.Change.TheVariants.{Keep, Set, Swap}
use Rattle.tso_terms.specs.declared.action.Action.{Action}
use Rattle.tso_terms.specs.declared.action.Action.TheVariants.{Store, Load, Move, Fence, Lock}
use Rattle.tso_terms.specs.declared.execution.Entry.{Entry}
use Rattle.tso_terms.specs.declared.execution.Kind.{Kind}
use Rattle.tso_terms.specs.declared.execution.Kind.TheVariants.{R, W, F, LR, LW}

abbrev pub entry : ℕ → ℕ → Kind → Loc → ℕ → Entry
entry core place kind loc value = record { core = record { 0 = core }; place = place; kind = kind; loc = loc; value = value }

-- a fence has location 0 and value 0
abbrev pub fence : ℕ → ℕ → Entry
fence core place = entry core place F (record { 0 = 0 }) 0

abbrev pub value_in : List ℕ → Reg → ℕ
value_in registers reg = slice_index registers (index_of reg)

abbrev pub with_value : List ℕ → Reg → ℕ → List ℕ
with_value registers reg value = slice_set registers (index_of reg) value

-- the value of an operand: the number itself, or what the register holds
abbrev pub value_of : List ℕ → Operand → ℕ
value_of registers (Number value) = value
value_of registers (Held reg) = value_in registers reg

-- the word that LOCK XADD leaves: the sum of the old word and the register, modulo 2^32
abbrev pub sum_of : ℕ → ℕ → ℕ
sum_of word value = (word + value) % 2 ^ 32

-- the first word without the second, modulo 2^32
abbrev pub difference_of : ℕ → ℕ → ℕ
difference_of word value = (word + (2 ^ 32 - value)) % 2 ^ 32

-- what an operator makes of a word and a value
abbrev pub combined : Operator → ℕ → ℕ → ℕ
combined Add word value = sum_of word value
combined Subtract word value = difference_of word value
combined And word value = bit_and word value
combined Or word value = bit_or word value
combined Xor word value = bit_xor word value

-- what becomes of a word, the one of the location that a locked instruction writes or of the register that a move does, with these
-- registers
abbrev pub updated : Update → List ℕ → ℕ → ℕ
updated (Replace operand) registers word = value_of registers operand
updated (Combine operator operand) registers word = combined operator word (value_of registers operand)
updated Negate registers word = difference_of 0 word
updated (CompareExchange reg) registers word = if word == value_in registers Eax then value_in registers reg else word

-- the registers after a change: its register has what the update makes of its value; or two registers have exchanged their values
abbrev pub changed : Change → List ℕ → List ℕ
changed Keep registers = registers
changed (Set reg update) registers = with_value registers reg (updated update registers (value_in registers reg))
changed (Swap reg other) registers = with_value (with_value registers reg (value_in registers other)) other (value_in registers reg)

-- the registers after a locked instruction has read this word: its register has it, if it has a register
abbrev pub with_taken : List ℕ → Option Reg → ℕ → List ℕ
with_taken registers None word = registers
with_taken registers (Some reg) word = with_value registers reg word

-- the entries that an action makes at its place, with these registers; what it reads, if it does, returns `word`
abbrev pub entries_by : ℕ → ℕ → Action → List ℕ → ℕ → List Entry
entries_by core place (Store loc operand) registers word = entry core place W loc (value_of registers operand) ∷ []
entries_by core place (Load reg loc) registers word = entry core place R loc word ∷ []
entries_by core place (Move change) registers word = []
entries_by core place Fence registers word = fence core place ∷ []
entries_by core place (Lock loc target update) registers word =
    entry core place LR loc word ∷ (entry core place LW loc (updated update registers word) ∷ [])

-- the registers after it
abbrev pub registers_by : Action → List ℕ → ℕ → List ℕ
registers_by (Load reg loc) registers word = with_value registers reg word
registers_by (Move change) registers word = changed change registers
registers_by (Lock loc target update) registers word = with_taken registers target word
registers_by _ registers word = registers

-- whether it reads a location
abbrev pub is_reading : Action → Bool
is_reading (Load reg loc) = true
is_reading (Lock loc target update) = true
is_reading _ = false

-- the values that are left for what comes after an action
abbrev pub values_after : Action → List ℕ → List ℕ
values_after action values = if is_reading action then drop 1 values else values

-- the entries of a program from the instruction at `place` on, in program order; its reads return these values in turn
abbrev pub entries_of : ℕ → ℕ → List Instr → List ℕ → List ℕ → List Entry
entries_of core place [] registers values = []
entries_of core place (i ∷ rest) registers values =
    entries_by core place (action_of i) registers (slice_index values 0)
    ++ entries_of core (place + 1) rest (registers_by (action_of i) registers (slice_index values 0)) (values_after (action_of i) values)

-- the registers after a program
abbrev pub registers_after : List Instr → List ℕ → List ℕ → List ℕ
registers_after [] registers values = registers
registers_after (i ∷ rest) registers values =
    registers_after rest (registers_by (action_of i) registers (slice_index values 0)) (values_after (action_of i) values)

-- how many values a program reads: one for each load and each locked instruction
abbrev pub reads_in : List Instr → ℕ
reads_in [] = 0
reads_in (i ∷ rest) = if is_reading (action_of i) then suc (reads_in rest) else reads_in rest

-- the entries of one core of a test, where its reads return these values
abbrev pub entries_with : Litmus → ℕ → List ℕ → List Entry
entries_with t core values = entries_of core 0 (slice_index_or t.programs core []) (slice_index_or t.registers core []) values

-- its registers at the end
abbrev pub registers_with : Litmus → ℕ → List ℕ → List ℕ
registers_with t core values = registers_after (slice_index_or t.programs core []) (slice_index_or t.registers core []) values
