-- A locked addition beside the same change written out: as an update of the word that was read.
use Rattle.std.specs.Prelude.{ℕ, ◌≡◌, ◌↔◌, List, [], ◌∷◌}
use Rattle.basic_laws.specs.Types.{Entry, Loc}
use Rattle.branch_laws.specs.Trees.{Tree, Done, Cut, Reads, Stores, Fences, Locks, Writes, Adds, written, path}
use Rattle.branch_laws.specs.Branching.{Branching, IsBranchExecution}

-- the same tree with each locked change as an update
abbrev pub written_out : Tree → Tree
written_out (Done outputs) = Done outputs
written_out Cut = Cut
written_out (Reads loc next) = Reads loc (λ v. written_out (next v))
written_out (Stores loc value next) = Stores loc value (written_out next)
written_out (Fences next) = Fences (written_out next)
written_out (Locks loc change next) = Locks loc (Writes (λ v. written change v)) (λ v. written_out (next v))

abbrev pub all_written_out : List Tree → List Tree
all_written_out [] = []
all_written_out (tree ∷ trees) = written_out tree ∷ all_written_out trees

abbrev pub with_updates : Branching → Branching
with_updates b = record { name = b.name; locations = b.locations; words = b.words; trees = all_written_out b.trees }

-- a locked addition has the executions of its update; and its program is the same whatever word it reads, so paths that
-- differ in that word share a straight-line test where they go on alike
pub record AdditionsShareATest : Type 0 where
  pub executions : (b : Branching) (order : List Entry) (outputs : List (List ℕ))
      → IsBranchExecution b order outputs ↔ IsBranchExecution (with_updates b) order outputs
  pub program : (loc : Loc) (number v w : ℕ) (next : ℕ → Tree) (values others : List ℕ) → path (next v) values ≡ path (next w) others
      → path (Locks loc (Adds number) next) (v ∷ values) ≡ path (Locks loc (Adds number) next) (w ∷ others)
