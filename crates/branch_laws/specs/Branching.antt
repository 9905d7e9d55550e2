-- A test whose threads are trees, its executions by the axioms, and the straight-line test of a path of each tree.
use Rattle.std.specs.Prelude.{ℕ, ◌+◌, ◌≡◌, true, List, [], ◌∷◌, ◌++◌, length, Some, None, slice_get, slice_index, slice_index_or, drop}
use Rattle.tso_terms.specs.Litmus.{Litmus}
use Rattle.tso_terms.specs.ProgramOrder.{is_read}
use Rattle.tso_terms.specs.ProgramEntries.{read_values}
use Rattle.tso_terms.specs.Axioms.{KeepsProgramOrder, IsAdjacent, IsTsoExecution, last_value, counting}
use Rattle.tso_terms.specs.FinalState.{words_from}
use Rattle.basic_laws.specs.Types.{Entry, Instr}
use Rattle.branch_laws.specs.Trees.{Tree, entries_along, values_along, outputs_along, path}

pub record Branching : Type 0 where
  pub name : List ℕ
  pub locations : List (List ℕ)
  pub words : List ℕ
  pub trees : List Tree

-- each tree's read values by the order itself, core by core
abbrev pub values_from : ℕ → List Tree → List Entry → List (List ℕ)
values_from core [] order = []
values_from core (tree ∷ trees) order = values_along core 0 tree order ∷ values_from (core + 1) trees order

-- the entries that the trees make with them
abbrev pub made_along : ℕ → List Tree → List Entry → List Entry
made_along core [] order = []
made_along core (tree ∷ trees) order =
    entries_along core 0 tree (values_along core 0 tree order) ++ made_along (core + 1) trees order

-- with these values each tree is done, and has these outputs
abbrev pub Give : List Tree → List (List ℕ) → List (List ℕ) → Type 0
Give [] [] [] = Unit {0}
Give (tree ∷ trees) (values ∷ others) (outputs ∷ outs) = (outputs_along tree values ≡ Some outputs) × Give trees others outs
Give _ _ _ = ⊥

-- an execution of a branching test with these outputs: the axioms, of the entries that the trees make
pub record IsBranchExecution (b : Branching) (order : List Entry) (outputs : List (List ℕ)) : Type 0 where
  pub done : Give b.trees (values_from 0 b.trees order) outputs
  pub count : length order ≡ length (made_along 0 b.trees order)
  pub each : (k : ℕ) (e : Entry) → slice_get (made_along 0 b.trees order) k ≡ Some e → (i : ℕ) × (slice_get order i ≡ Some e)
  pub program_order : KeepsProgramOrder order
  pub adjacent : IsAdjacent order
  pub read_values : (front : List Entry) (x : Entry) (back : List Entry) → order ≡ front ++ (x ∷ back) → is_read x ≡ true
      → x.value ≡ last_value (counting x front back) (slice_index b.words x.loc.0)

-- the straight-line test of the paths that these values choose
abbrev pub paths : List Tree → List (List ℕ) → List (List Instr)
paths [] values = []
paths (tree ∷ trees) values = path tree (slice_index_or values 0 []) ∷ paths trees (drop 1 values)

abbrev pub zero_registers : List Tree → List (List ℕ)
zero_registers [] = []
zero_registers (tree ∷ trees) = (0 ∷ (0 ∷ (0 ∷ (0 ∷ (0 ∷ (0 ∷ [])))))) ∷ zero_registers trees

abbrev pub straight : Branching → List (List ℕ) → Litmus
straight b values = record {
  name = b.name;
  locations = b.locations;
  words = b.words;
  registers = zero_registers b.trees;
  programs = paths b.trees values;
  condition = None;
}

-- what the reads of straight-line programs return in an order, core by core
abbrev pub all_read_values : ℕ → List (List Instr) → List Entry → List (List ℕ)
all_read_values core [] order = []
all_read_values core (p ∷ ps) order = read_values core 0 p order ∷ all_read_values (core + 1) ps order

-- an execution of the straight-line test of these values in which the reads return these very values
pub record IsPathExecution (b : Branching) (values : List (List ℕ)) (order : List Entry) (outputs : List (List ℕ)) : Type 0 where
  pub done : Give b.trees values outputs
  pub execution : IsTsoExecution (straight b values) order
  pub reads : all_read_values 0 (paths b.trees values) order ≡ values

-- outputs and memory that an execution of the branching test leaves
pub record IsBranchOutcome (b : Branching) (outputs : List (List ℕ)) (memory : List ℕ) : Type 0 where
  pub order : List Entry
  pub execution : IsBranchExecution b order outputs
  pub memory_is : words_from 0 b.words order ≡ memory

-- those that an execution of the straight-line test of these values leaves
pub record IsPathOutcome (b : Branching) (values : List (List ℕ)) (outputs : List (List ℕ)) (memory : List ℕ) : Type 0 where
  pub order : List Entry
  pub execution : IsPathExecution b values order outputs
  pub memory_is : words_from 0 b.words order ≡ memory
