-- What adds nothing to a path and takes nothing from it: a read whose value the rest of the path doesn't need, and a store to
-- a location that no thread reads. So a loop that only reads may be taken at its last round alone, and a core may note
-- in a location of its own what it read. (This project's.)
use Rattle.std.specs.Prelude.{ℕ, ◌<◌, ◌≤◌, ◌≡◌, List, [], ◌∷◌, length, Some, slice_index, slice_index_or}
use Rattle.basic_laws.specs.Types.{Loc}
use Rattle.branch_laws.specs.Trees.{Change, Tree, Done, Cut, Reads, Stores, Fences, Locks, outputs_along}
use Rattle.branch_laws.specs.Branching.{Branching, IsBranchOutcome}
use Rattle.branch_laws.specs.Rounds.{EachPathIsTest}

-- the path of the first tree that these values choose is one of the second, with two exceptions: reads that only the first one
-- makes, and stores to the locations from n on, which either may make alone. Nothing else touches these locations
pub data IsSamePath (n : ℕ) : Tree → List ℕ → Tree → Type 0 where
  both_end : (outputs : List ℕ) → IsSamePath n (Done outputs) [] (Done outputs)
  both_read : (loc : Loc) (next more : ℕ → Tree) (v : ℕ) (values : List ℕ)
      → loc.0 < n → IsSamePath n (next v) values (more v) → IsSamePath n (Reads loc next) (v ∷ values) (Reads loc more)
  both_store : (loc : Loc) (value : ℕ) (next more : Tree) (values : List ℕ)
      → loc.0 < n → IsSamePath n next values more → IsSamePath n (Stores loc value next) values (Stores loc value more)
  both_fence : (next more : Tree) (values : List ℕ) → IsSamePath n next values more → IsSamePath n (Fences next) values (Fences more)
  both_lock : (loc : Loc) (change : Change) (next more : ℕ → Tree) (v : ℕ) (values : List ℕ)
      → loc.0 < n → IsSamePath n (next v) values (more v) → IsSamePath n (Locks loc change next) (v ∷ values) (Locks loc change more)
  reads_alone : (loc : Loc) (next : ℕ → Tree) (v : ℕ) (values : List ℕ) (other : Tree)
      → IsSamePath n (next v) values other → IsSamePath n (Reads loc next) (v ∷ values) other
  stores_alone : (loc : Loc) (value : ℕ) (next : Tree) (values : List ℕ) (other : Tree)
      → n ≤ loc.0 → IsSamePath n next values other → IsSamePath n (Stores loc value next) values other
  other_stores : (loc : Loc) (value : ℕ) (tree : Tree) (values : List ℕ) (other : Tree)
      → n ≤ loc.0 → IsSamePath n tree values other → IsSamePath n tree values (Stores loc value other)

-- so are all paths of the first test, over n locations that both have, with the same first words
pub record HasTheSamePaths (n : ℕ) (b other : Branching) : Type 0 where
  pub cores : length other.trees ≡ length b.trees
  pub locations : n ≤ length b.words
  pub other_locations : n ≤ length other.words
  pub words : (loc : ℕ) → loc < n → slice_index other.words loc ≡ slice_index b.words loc
  pub paths : (k : ℕ) (values outputs : List ℕ) → k < length b.trees → outputs_along (slice_index_or b.trees k Cut) values ≡ Some outputs
      → IsSamePath n (slice_index_or b.trees k Cut) values (slice_index_or other.trees k Cut)

-- then the second test may leave what the first one may, in these locations
abbrev pub SamePathsLeaveTheSame : Type 0
SamePathsLeaveTheSame =
    (n : ℕ) (b other : Branching) (outputs : List (List ℕ)) (memory : List ℕ)
    → EachPathIsTest b → EachPathIsTest other → HasTheSamePaths n b other → IsBranchOutcome b outputs memory
    → (left : List ℕ) × IsBranchOutcome other outputs left × ((loc : ℕ) → loc < n → slice_index left loc ≡ slice_index memory loc)
