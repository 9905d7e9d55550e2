-- A thread that branches, whatever its instructions are: a tree of what it does to memory, with one way on for each value
-- that a read may return. Beside it the straight-line program of a path. (Interaction trees; x86-TSO, section 3.)
use Rattle.std.specs.Prelude.{ℕ, ◌+◌, List, [], ◌∷◌, Option, Some, None, slice_index, drop}
use Rattle.tso_terms.specs.Thread.{entry, fence, sum_of}
use Rattle.tso_terms.specs.ProgramEntries.{read_value}
use Rattle.basic_laws.specs.Types.{Entry, Instr, Loc, Reg, R, W, LR, LW, Eax, Ebx, Load, StoreImm, SetImm, Xchg, Xadd, Fence}

-- what a locked instruction writes: a number that may depend on the word that it read, or the sum of that word and a number
pub data Change : Type 0 where
  Writes : (ℕ → ℕ) → Change
  Adds : ℕ → Change

abbrev pub written : Change → ℕ → ℕ
written (Writes update) word = update word
written (Adds number) word = sum_of word number

-- the thread is done, with these outputs; or it was cut off at a bound; or it reads a location, stores a number, fences, or
-- reads and changes a location in one locked instruction
pub data Tree : Type 0 where
  Done : List ℕ → Tree
  Cut : Tree
  Reads : Loc → (ℕ → Tree) → Tree
  Stores : Loc → ℕ → Tree → Tree
  Fences : Tree → Tree
  Locks : Loc → Change → (ℕ → Tree) → Tree

-- the entries of a tree from a place on, where its reads return these values in turn. A locked instruction stands one place
-- further on: before it, as in the straight-line program below, a move takes a place
abbrev pub entries_along : ℕ → ℕ → Tree → List ℕ → List Entry
entries_along core place (Done outputs) values = []
entries_along core place Cut values = []
entries_along core place (Reads loc next) values =
    entry core place R loc (slice_index values 0) ∷ entries_along core (place + 1) (next (slice_index values 0)) (drop 1 values)
entries_along core place (Stores loc value next) values = entry core place W loc value ∷ entries_along core (place + 1) next values
entries_along core place (Fences next) values = fence core place ∷ entries_along core (place + 1) next values
entries_along core place (Locks loc change next) values =
    entry core (place + 1) LR loc (slice_index values 0)
    ∷ (entry core (place + 1) LW loc (written change (slice_index values 0))
    ∷ entries_along core ((place + 1) + 1) (next (slice_index values 0)) (drop 1 values))

-- the order's own values for the reads of a tree from a place on
abbrev pub values_along : ℕ → ℕ → Tree → List Entry → List ℕ
values_along core place (Done outputs) order = []
values_along core place Cut order = []
values_along core place (Reads loc next) order =
    read_value core place R order ∷ values_along core (place + 1) (next (read_value core place R order)) order
values_along core place (Stores loc value next) order = values_along core (place + 1) next order
values_along core place (Fences next) order = values_along core (place + 1) next order
values_along core place (Locks loc change next) order =
    read_value core (place + 1) LR order ∷ values_along core ((place + 1) + 1) (next (read_value core (place + 1) LR order)) order

-- the outputs at the end of the path that exactly these values choose; none where they are too few or too many, or where
-- the path is cut off
abbrev pub outputs_along : Tree → List ℕ → Option (List ℕ)
outputs_along (Done outputs) [] = Some outputs
outputs_along (Done outputs) (v ∷ values) = None
outputs_along Cut values = None
outputs_along (Reads loc next) [] = None
outputs_along (Reads loc next) (v ∷ values) = outputs_along (next v) values
outputs_along (Stores loc value next) values = outputs_along next values
outputs_along (Fences next) values = outputs_along next values
outputs_along (Locks loc change next) [] = None
outputs_along (Locks loc change next) (v ∷ values) = outputs_along (next v) values

-- the number that a locked instruction finds in its register, if it reads this word
abbrev pub operand : Change → ℕ → ℕ
operand (Writes update) word = update word
operand (Adds number) word = number

-- the locked instruction: an exchange, or an addition
abbrev pub locking : Change → Loc → Reg → Instr
locking (Writes update) loc reg = Xchg loc reg
locking (Adds number) loc reg = Xadd loc reg

-- the straight-line program of that path: loads go into one register, and the number for a locked instruction is moved into
-- another one first
abbrev pub path : Tree → List ℕ → List Instr
path (Done outputs) values = []
path Cut values = []
path (Reads loc next) values = Load Eax loc ∷ path (next (slice_index values 0)) (drop 1 values)
path (Stores loc value next) values = StoreImm loc value ∷ path next values
path (Fences next) values = Fence ∷ path next values
path (Locks loc change next) values =
    SetImm Ebx (operand change (slice_index values 0))
    ∷ (locking change loc Ebx ∷ path (next (slice_index values 0)) (drop 1 values))
