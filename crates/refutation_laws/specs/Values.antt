-- Values that the answers tell, and what a proposition can be with them. A read returns a known value where an answer says which
-- write it reads from, and that write's value is known; the programs run with registers that are known or not.
use Rattle.std.specs.Prelude.{ℕ, zero, suc, ◌+◌, ◌==◌, ◌&&◌, ◌||◌, Bool, true, false, not, if◌then◌else◌, List, [], ◌∷◌, ◌++◌, map, filter, length}
use Rattle.std.specs.Prelude.{Option, Some, None, slice_index, slice_index_or, slice_set}
use Rattle.std.specs.List.{list_any}
use Rattle.tso_terms.specs.Litmus.{Litmus}
use Rattle.tso_terms.specs.Registers.{index_of}
use Rattle.tso_terms.specs.Actions.{action_of}
use Rattle.tso_terms.specs.Thread.{entry, combined, difference_of}
use Rattle.tso_terms.specs.ProgramOrder.{writes_to}
use Rattle.tso_terms.specs.Condition.{Claim, TruthClaim, RegClaim, LocClaim, NotClaim, AndClaim, OrClaim}
use Rattle.basic_laws.specs.Types.{Reg, Eax, Loc, Instr, Operand, Number, Held, Operator, Update, Replace, Negate, CompareExchange, Change}
use Rattle.basic_laws.specs.Types.{Keep, Set, Swap, Action, Entry, Kind, R, W, LR, LW}
use Rattle.tso_terms.specs.declared.action.Action.TheVariants.{Store, Load, Move, Lock}
use Rattle.tso_terms.specs.declared.action.Update.TheVariants.{Combine}
use Rattle.refutation_laws.specs.Known.{Known, events_of, same_event, comes_before}
use Rattle.refutation_laws.specs.declared.known.Source.{Source}

-- ---- a thread (as tso_terms's Thread line by line, with None for what isn't known)

abbrev pub known_in : List (Option ℕ) → Reg → Option ℕ
known_in registers reg = slice_index_or registers (index_of reg) None

abbrev pub known_operand : List (Option ℕ) → Operand → Option ℕ
known_operand registers (Number value) = Some value
known_operand registers (Held reg) = known_in registers reg

abbrev pub known_combined : Operator → Option ℕ → Option ℕ → Option ℕ
known_combined operator (Some word) (Some value) = Some (combined operator word value)
known_combined operator _ _ = None

abbrev pub known_negated : Option ℕ → Option ℕ
known_negated (Some word) = Some (difference_of 0 word)
known_negated None = None

-- the word after a compare and exchange: the register's value, or the word itself, once it is known whether EAX is equal
abbrev pub known_exchanged : Option ℕ → Option ℕ → Option ℕ → Option ℕ
known_exchanged (Some word) (Some eax) value = if word == eax then value else Some word
known_exchanged _ _ value = None

abbrev pub known_update : Update → List (Option ℕ) → Option ℕ → Option ℕ
known_update (Replace operand) registers word = known_operand registers operand
known_update (Combine operator operand) registers word = known_combined operator word (known_operand registers operand)
known_update Negate registers word = known_negated word
known_update (CompareExchange reg) registers word = known_exchanged word (known_in registers Eax) (known_in registers reg)

-- the registers with this word in the register, if there is one
abbrev pub known_taken : List (Option ℕ) → Option Reg → Option ℕ → List (Option ℕ)
known_taken registers None word = registers
known_taken registers (Some reg) word = slice_set registers (index_of reg) word

-- the registers after a move
abbrev pub known_changed : Change → List (Option ℕ) → List (Option ℕ)
known_changed Keep registers = registers
known_changed (Set reg update) registers = slice_set registers (index_of reg) (known_update update registers (known_in registers reg))
known_changed (Swap reg other) registers = slice_set (slice_set registers (index_of reg) (known_in registers other)) (index_of other) (known_in registers reg)

-- what an action reads, where `given` tells what is known of each read
abbrev pub word_given : (Entry → Option ℕ) → ℕ → ℕ → Action → Option ℕ
word_given given core place (Load reg loc) = given (entry core place R loc 0)
word_given given core place (Lock loc reg update) = given (entry core place LR loc 0)
word_given given core place _ = None

-- a write, if its value is known
abbrev pub write_with : ℕ → ℕ → Kind → Loc → Option ℕ → List Entry
write_with core place kind loc None = []
write_with core place kind loc (Some value) = entry core place kind loc value ∷ []

abbrev pub writes_by : ℕ → ℕ → Action → List (Option ℕ) → Option ℕ → List Entry
writes_by core place (Store loc operand) registers word = write_with core place W loc (known_operand registers operand)
writes_by core place (Lock loc reg update) registers word = write_with core place LW loc (known_update update registers word)
writes_by core place _ registers word = []

abbrev pub registers_left_by : Action → List (Option ℕ) → Option ℕ → List (Option ℕ)
registers_left_by (Load reg loc) registers word = slice_set registers (index_of reg) word
registers_left_by (Move change) registers word = known_changed change registers
registers_left_by (Lock loc target update) registers word = known_taken registers target word
registers_left_by _ registers word = registers

-- the writes of a program that are known, with their values
abbrev pub writes_of : (Entry → Option ℕ) → ℕ → ℕ → List Instr → List (Option ℕ) → List Entry
writes_of given core place [] registers = []
writes_of given core place (i ∷ rest) registers =
    writes_by core place (action_of i) registers (word_given given core place (action_of i))
    ++ writes_of given core (place + 1) rest (registers_left_by (action_of i) registers (word_given given core place (action_of i)))

-- the registers after it
abbrev pub left_of : (Entry → Option ℕ) → ℕ → ℕ → List Instr → List (Option ℕ) → List (Option ℕ)
left_of given core place [] registers = registers
left_of given core place (i ∷ rest) registers =
    left_of given core (place + 1) rest (registers_left_by (action_of i) registers (word_given given core place (action_of i)))

-- ---- all threads

abbrev pub known_first_registers : List (List ℕ) → ℕ → List (Option ℕ)
known_first_registers registers core = map (λ v. Some v) (slice_index_or registers core [])

abbrev pub writes_from : (Entry → Option ℕ) → ℕ → List (List Instr) → List (List ℕ) → List Entry
writes_from given core [] registers = []
writes_from given core (p ∷ ps) registers =
    writes_of given core 0 p (known_first_registers registers core) ++ writes_from given (core + 1) ps registers

-- the value of a write, if it is among those that are known
abbrev pub value_among : List Entry → Entry → Option ℕ
value_among [] w = None
value_among (x ∷ xs) w = if same_event x w then Some x.value else value_among xs w

-- what a read returns that reads from this, where these writes are known
abbrev pub returned_from : Litmus → List Entry → Entry → Option Entry → Option ℕ
returned_from t writes r None = Some (slice_index t.words r.loc.0)
returned_from t writes r (Some w) = value_among writes w

-- what a read returns, by the answers and these writes
abbrev pub returned : Litmus → List Entry → List Source → Entry → Option ℕ
returned t writes [] r = None
returned t writes (s ∷ ss) r = if same_event s.read r then returned_from t writes r s.write else returned t writes ss r

-- The writes that are known after so many rounds: in each the programs run, and their reads return what the round before knew.
abbrev pub known_writes : Litmus → Known → ℕ → List Entry
known_writes t k zero = []
known_writes t k (suc n) = writes_from (returned t (known_writes t k n) k.sources) 0 t.programs t.registers

-- All of them: writes that have their values from each other, one after the other, are at most as many as there are events.
abbrev pub all_known : Litmus → Known → List Entry
all_known t k = known_writes t k (length (events_of t))

-- what a read returns
abbrev pub value_read : Litmus → Known → Entry → Option ℕ
value_read t k r = returned t (all_known t k) k.sources r

-- ---- the final state

abbrev pub register_at_end : Litmus → Known → ℕ → Reg → Option ℕ
register_at_end t k core reg =
    known_in (left_of (value_read t k) core 0 (slice_index_or t.programs core []) (known_first_registers t.registers core)) reg

-- a write to the location that no answer puts before another one
abbrev pub can_be_last : Litmus → Known → ℕ → Entry → Bool
can_be_last t k loc w = writes_to loc w && not (list_any (comes_before k w) (events_of t))

-- What the location's word may be: the value of each write that can be its last one; the first word, where no write goes there.
abbrev pub words_at_end : Litmus → Known → ℕ → List (Option ℕ)
words_at_end t k loc =
    if list_any (writes_to loc) (events_of t)
    then map (value_among (all_known t k)) (filter (can_be_last t k loc) (events_of t))
    else Some (slice_index t.words loc) ∷ []

-- ---- propositions

-- `it is n` can have this truth of a number of which this much is known
abbrev pub can_be : ℕ → Bool → Option ℕ → Bool
can_be n truth None = true
can_be n truth (Some v) = if truth then v == n else not (v == n)

-- the proposition can have this truth, as far as the answers tell the final state
abbrev pub allows : Litmus → Known → Claim → Bool → Bool
allows t k (TruthClaim b) truth = if truth then b else not b
allows t k (RegClaim core reg value) truth = can_be value truth (register_at_end t k core reg)
allows t k (LocClaim loc value) truth = list_any (can_be value truth) (words_at_end t k loc)
allows t k (NotClaim inner) truth = allows t k inner (not truth)
allows t k (AndClaim left right) truth =
    if truth then allows t k left true && allows t k right true else allows t k left false || allows t k right false
allows t k (OrClaim left right) truth =
    if truth then allows t k left true || allows t k right true else allows t k left false && allows t k right false
