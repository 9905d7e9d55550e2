-- What the two instructions of a locked change do: a move of its number into a register, and the exchange or the addition.
use Rattle.std.proofs.Common.{◌≡◌, ℕ, ◌+◌, List, ◌∷◌, Some, ap, ◌∙◌, refl, slice_index, drop}
use Rattle.tso_terms.specs.Actions.{action_of}
use Rattle.tso_terms.specs.Thread.{entry, entries_of, registers_after, with_value, value_in, sum_of}
use Rattle.tso_terms.specs.ProgramEntries.{read_value, read_values}
use Rattle.tso_terms.specs.FlatMachine.{CoreState, effect_by, locked}
use Rattle.basic_laws.specs.Types.{Entry, Instr, Loc, Reg, LR, LW, SetImm}
use Rattle.branch_laws.specs.Trees.{Change, Writes, Adds, written, operand, locking}

-- what the locked instruction writes, where it reads this word and its register holds this number
abbrev pub left_by : Change → ℕ → ℕ → ℕ
left_by (Writes update) word number = number
left_by (Adds n) word number = sum_of word number

pub left-by-operand : (change : Change) (word : ℕ) → left_by change word (operand change word) ≡ written change word
left-by-operand (Writes update) word = refl
left-by-operand (Adds n) word = refl

-- the machine's step at the locked instruction
pub locking-any : (d : ℕ) (memory : List ℕ) (c : ℕ) (change : Change) (loc : Loc) (reg : Reg) (f : CoreState)
    → effect_by d memory c (action_of (locking change loc reg)) f
    ≡ locked c f loc (Some reg) (slice_index memory loc.0) (left_by change (slice_index memory loc.0) (value_in f.registers reg))
locking-any d memory c (Writes update) loc reg f = refl
locking-any d memory c (Adds n) loc reg f = refl

-- the same, where its register holds the number of the change
pub locking-step : (d : ℕ) (memory : List ℕ) (c : ℕ) (change : Change) (loc : Loc) (reg : Reg) (f : CoreState)
    → value_in f.registers reg ≡ operand change (slice_index memory loc.0)
    → effect_by d memory c (action_of (locking change loc reg)) f
    ≡ locked c f loc (Some reg) (slice_index memory loc.0) (written change (slice_index memory loc.0))
locking-step d memory c change loc reg f h =
    locking-any d memory c change loc reg f
    ∙ ap (λ z. locked c f loc (Some reg) (slice_index memory loc.0) z)
    (ap (λ z. left_by change (slice_index memory loc.0) z) h ∙ left-by-operand change (slice_index memory loc.0))

-- the entries of both
pub locking-entries : (c k : ℕ) (change : Change) (loc : Loc) (reg : Reg) (rest : List Instr) (regs rv : List ℕ) (number : ℕ)
    → value_in (with_value regs reg number) reg ≡ number
    → entries_of c k (SetImm reg number ∷ (locking change loc reg ∷ rest)) regs rv
    ≡ entry c (k + 1) LR loc (slice_index rv 0) ∷ (entry c (k + 1) LW loc (left_by change (slice_index rv 0) number)
    ∷ entries_of c ((k + 1) + 1) rest (with_value (with_value regs reg number) reg (slice_index rv 0)) (drop 1 rv))
locking-entries c k (Writes update) loc reg rest regs rv number h =
    ap (λ z. entry c (k + 1) LR loc (slice_index rv 0) ∷ (entry c (k + 1) LW loc z
    ∷ entries_of c ((k + 1) + 1) rest (with_value (with_value regs reg number) reg (slice_index rv 0)) (drop 1 rv))) h
locking-entries c k (Adds n) loc reg rest regs rv number h =
    ap (λ z. entry c (k + 1) LR loc (slice_index rv 0) ∷ (entry c (k + 1) LW loc (sum_of (slice_index rv 0) z)
    ∷ entries_of c ((k + 1) + 1) rest (with_value (with_value regs reg number) reg (slice_index rv 0)) (drop 1 rv))) h

-- what they read
pub locking-reads : (c k : ℕ) (change : Change) (loc : Loc) (reg : Reg) (rest : List Instr) (number : ℕ) (order : List Entry)
    → read_values c k (SetImm reg number ∷ (locking change loc reg ∷ rest)) order ≡ read_value c (k + 1) LR order ∷ read_values c ((k + 1) + 1) rest order
locking-reads c k (Writes update) loc reg rest number order = refl
locking-reads c k (Adds n) loc reg rest number order = refl

-- what they leave in registers
pub locking-registers : (change : Change) (loc : Loc) (reg : Reg) (rest : List Instr) (regs rv : List ℕ) (number : ℕ)
    → registers_after (SetImm reg number ∷ (locking change loc reg ∷ rest)) regs rv
    ≡ registers_after rest (with_value (with_value regs reg number) reg (slice_index rv 0)) (drop 1 rv)
locking-registers (Writes update) loc reg rest regs rv number = refl
locking-registers (Adds n) loc reg rest regs rv number = refl
