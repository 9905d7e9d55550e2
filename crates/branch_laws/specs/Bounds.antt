-- A bound on loops: the same trees, cut off in some places. (This project's.)
use Rattle.std.specs.Prelude.{ℕ, ◌≡◌, ◌↔◌, List, [], ◌∷◌, slice_index_or}
use Rattle.basic_laws.specs.Types.{Entry}
use Rattle.branch_laws.specs.Trees.{Tree, Done, Cut, Reads, Stores, Fences, Locks}
use Rattle.branch_laws.specs.Branching.{Branching, Give, values_from, IsBranchExecution, IsBranchOutcome}
use Rattle.branch_laws.specs.Rounds.{EachPathIsTest}

-- the first tree is the second one, but that it may be cut off earlier
abbrev pub IsCutFrom : Tree → Tree → Type 0
IsCutFrom Cut whole = Unit {0}
IsCutFrom (Done outputs) (Done others) = outputs ≡ others
IsCutFrom (Reads loc next) (Reads at more) = (loc ≡ at) × ((v : ℕ) → IsCutFrom (next v) (more v))
IsCutFrom (Stores loc value next) (Stores at other more) = (loc ≡ at) × (value ≡ other) × IsCutFrom next more
IsCutFrom (Fences next) (Fences more) = IsCutFrom next more
IsCutFrom (Locks loc change next) (Locks at other more) = (loc ≡ at) × (change ≡ other) × ((v : ℕ) → IsCutFrom (next v) (more v))
IsCutFrom _ _ = ⊥

abbrev pub AreCutFrom : List Tree → List Tree → Type 0
AreCutFrom [] [] = Unit {0}
AreCutFrom (tree ∷ trees) (whole ∷ others) = IsCutFrom tree whole × AreCutFrom trees others
AreCutFrom _ _ = ⊥

-- the test b is `whole` with a bound on its loops
pub record IsBounded (b whole : Branching) : Type 0 where
  pub words : b.words ≡ whole.words
  pub trees : AreCutFrom b.trees whole.trees

-- no execution takes a path that the bound cuts off: each leads the bounded trees to outputs
abbrev pub NoneIsCutOff : Branching → Branching → Type 0
NoneIsCutOff b whole =
    (order : List Entry) (outputs : List (List ℕ)) → IsBranchExecution whole order outputs
    → (others : List (List ℕ)) × Give b.trees (values_from 0 b.trees order) others

-- what a bounded test may leave, the whole one may; where no execution takes a path that is cut off, that is all
pub record BoundedOutcomesAreOutcomes : Type 0 where
  pub each : (b whole : Branching) (outputs : List (List ℕ)) (memory : List ℕ)
      → IsBounded b whole → IsBranchOutcome b outputs memory → IsBranchOutcome whole outputs memory
  pub all : (b whole : Branching) (outputs : List (List ℕ)) (memory : List ℕ)
      → IsBounded b whole → NoneIsCutOff b whole → IsBranchOutcome whole outputs memory ↔ IsBranchOutcome b outputs memory

-- the tree with an end in each place where it is cut off: its outputs are 1 alone there, and elsewhere they come after a 0
abbrev pub marked : Tree → Tree
marked (Done outputs) = Done (0 ∷ outputs)
marked Cut = Done (1 ∷ [])
marked (Reads loc next) = Reads loc (λ v. marked (next v))
marked (Stores loc value next) = Stores loc value (marked next)
marked (Fences next) = Fences (marked next)
marked (Locks loc change next) = Locks loc change (λ v. marked (next v))

abbrev pub all_marked : List Tree → List Tree
all_marked [] = []
all_marked (tree ∷ trees) = marked tree ∷ all_marked trees

abbrev pub with_marks : Branching → Branching
with_marks b = record { name = b.name; locations = b.locations; words = b.words; trees = all_marked b.trees }

-- in no outcome of the marked test a core was cut off
abbrev pub NoOutcomeIsCutOff : Branching → Type 0
NoOutcomeIsCutOff b =
    (outputs : List (List ℕ)) (memory : List ℕ) (core : ℕ) → IsBranchOutcome (with_marks b) outputs memory → slice_index_or outputs core [] ≡ 1 ∷ [] → ⊥

-- then no execution of the whole test takes a path that the bound cuts off
abbrev pub CutOffPathsShow : Type 0
CutOffPathsShow =
    (b whole : Branching) → IsBounded b whole → EachPathIsTest whole → EachPathIsTest (with_marks b) → NoOutcomeIsCutOff b → NoneIsCutOff b whole
