-- How much there is to do in a test: its instructions, and its plain stores, each of which is also drained. By these
-- numbers the choices of a run are counted, and the rounds that end it.
use Rattle.std.specs.Prelude.{max, ℕ, ◌+◌, List, [], ◌∷◌, length}
use Rattle.tso_terms.specs.Actions.{action_of}
use Rattle.basic_laws.specs.Types.{Instr, Action}
use Rattle.tso_terms.specs.declared.action.Action.TheVariants.{Store}

-- 1 for a plain store, else 0
abbrev pub store_count : Action → ℕ
store_count (Store loc operand) = 1
store_count _ = 0

abbrev pub is_plain_store : Instr → ℕ
is_plain_store i = store_count (action_of i)

-- the plain stores of a program
abbrev pub stores_in : List Instr → ℕ
stores_in [] = 0
stores_in (x ∷ xs) = is_plain_store x + stores_in xs

-- the instructions of all programs
abbrev pub instructions : List (List Instr) → ℕ
instructions [] = 0
instructions (p ∷ ps) = length p + instructions ps

-- the plain stores of all programs
abbrev pub stores_of_all : List (List Instr) → ℕ
stores_of_all [] = 0
stores_of_all (p ∷ ps) = stores_in p + stores_of_all ps

-- the greatest number of plain stores in one program
abbrev pub most_stores : List (List Instr) → ℕ
most_stores [] = 0
most_stores (p ∷ ps) = max (stores_in p) (most_stores ps)

-- the length of the longest program
abbrev pub longest : List (List Instr) → ℕ
longest [] = 0
longest (p ∷ ps) = max (length p) (longest ps)
