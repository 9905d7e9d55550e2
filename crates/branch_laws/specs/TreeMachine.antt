-- The flat machine over trees: one memory, and for each core what is left of its tree and the stores that are pending. A
-- choice that can't take effect changes nothing. (x86-TSO, section 3.)
use Rattle.std.specs.Prelude.{ℕ, ◌+◌, ◌<◌, ◌≡◌, nat_lt, if◌then◌else◌, List, [], ◌∷◌, ◌++◌, filter, length, slice_index, slice_index_or, slice_set, take, drop}
use Rattle.tso_terms.specs.Thread.{entry, fence}
use Rattle.tso_terms.specs.ProgramOrder.{writes_to}
use Rattle.tso_terms.specs.Axioms.{last_value}
use Rattle.tso_terms.specs.FlatMachine.{is_none_pending, memory_after, chosen}
use Rattle.tso_terms.specs.Runs.{CoresExist}
use Rattle.basic_laws.specs.Types.{Entry, Choice, Step, Drain, R, W, LR, LW}
use Rattle.branch_laws.specs.Trees.{Tree, Done, Cut, Reads, Stores, Fences, Locks, written}
use Rattle.branch_laws.specs.Branching.{Branching}

pub record TreeCore : Type 0 where
  pub place : ℕ
  pub rest : Tree
  pub pending : List Entry

pub record TreeState : Type 0 where
  pub memory : List ℕ
  pub cores : List TreeCore

pub record TreeEffect : Type 0 where
  pub after : TreeCore
  pub commits : List Entry

abbrev pub stays : TreeCore → TreeEffect
stays s = record { after = s; commits = [] }

-- the value that a load gets: of the newest own pending store to the location, else of memory
abbrev pub seen_value : List ℕ → List Entry → ℕ → ℕ
seen_value memory pending loc = last_value (filter (writes_to loc) pending) (slice_index memory loc)

-- a step of a core at this tree
abbrev pub act : ℕ → List ℕ → ℕ → Tree → TreeCore → TreeEffect
act depth memory core (Done outputs) s = stays s
act depth memory core Cut s = stays s
act depth memory core (Reads loc next) s = record {
  after = record { place = s.place + 1; rest = next (seen_value memory s.pending loc.0); pending = s.pending };
  commits = entry core s.place R loc (seen_value memory s.pending loc.0) ∷ [];
}
act depth memory core (Stores loc value next) s =
    if nat_lt (length s.pending) depth
    then record { after = record { place = s.place + 1; rest = next; pending = s.pending ++ entry core s.place W loc value ∷ [] }; commits = [] }
    else stays s
act depth memory core (Fences next) s =
    if is_none_pending s.pending
    then record { after = record { place = s.place + 1; rest = next; pending = s.pending }; commits = fence core s.place ∷ [] }
    else stays s
act depth memory core (Locks loc change next) s =
    if is_none_pending s.pending
    then record {
      after = record { place = (s.place + 1) + 1; rest = next (slice_index memory loc.0); pending = s.pending };
      commits = entry core (s.place + 1) LR loc (slice_index memory loc.0)
          ∷ (entry core (s.place + 1) LW loc (written change (slice_index memory loc.0)) ∷ []);
    }
    else stays s

-- the oldest pending store, if there is one, is committed
abbrev pub drain_tree : TreeCore → TreeEffect
drain_tree s = record { after = record { place = s.place; rest = s.rest; pending = drop 1 s.pending }; commits = take 1 s.pending }

abbrev pub no_core : TreeCore
no_core = record { place = 0; rest = Cut; pending = [] }

abbrev pub tree_core : TreeState → ℕ → TreeCore
tree_core state core = slice_index_or state.cores core no_core

abbrev pub tree_effect : ℕ → TreeState → Choice → TreeEffect
tree_effect depth state (Step core) = act depth state.memory core.0 (tree_core state core.0).rest (tree_core state core.0)
tree_effect depth state (Drain core) = drain_tree (tree_core state core.0)

abbrev pub tree_applied : TreeState → ℕ → TreeEffect → TreeState
tree_applied state core g = record { memory = memory_after g.commits state.memory; cores = slice_set state.cores core g.after }

abbrev pub tree_choice : ℕ → TreeState → Choice → TreeState
tree_choice depth state choice = tree_applied state (chosen choice) (tree_effect depth state choice)

abbrev pub tree_after : ℕ → TreeState → List Choice → TreeState
tree_after depth state [] = state
tree_after depth state (c ∷ cs) = tree_after depth (tree_choice depth state c) cs

abbrev pub tree_commits : ℕ → TreeState → List Choice → List Entry
tree_commits depth state [] = []
tree_commits depth state (c ∷ cs) = (tree_effect depth state c).commits ++ tree_commits depth (tree_choice depth state c) cs

abbrev pub planted : List Tree → List TreeCore
planted [] = []
planted (tree ∷ trees) = record { place = 0; rest = tree; pending = [] } ∷ planted trees

abbrev pub tree_start : Branching → TreeState
tree_start b = record { memory = b.words; cores = planted b.trees }

-- a core whose tree is done with these outputs, and nothing is pending
pub record IsDoneWith (s : TreeCore) (outputs : List ℕ) : Type 0 where
  pub rest : s.rest ≡ Done outputs
  pub pending : s.pending ≡ []

-- some choices of the cores commit this very order, and leave each tree done with these outputs
pub record IsTreeReached (b : Branching) (depth : ℕ) (order : List Entry) (outputs : List (List ℕ)) : Type 0 where
  pub choices : List Choice
  pub exist : CoresExist (length b.trees) choices
  pub commits : tree_commits depth (tree_start b) choices ≡ order
  pub count : length outputs ≡ length b.trees
  pub done : (k : ℕ) → k < length b.trees → IsDoneWith (tree_core (tree_after depth (tree_start b) choices) k) (slice_index_or outputs k [])

-- some choices of the cores leave each tree done with these outputs, and this memory
pub record IsTreeEnd (b : Branching) (depth : ℕ) (outputs : List (List ℕ)) (memory : List ℕ) : Type 0 where
  pub choices : List Choice
  pub exist : CoresExist (length b.trees) choices
  pub count : length outputs ≡ length b.trees
  pub done : (k : ℕ) → k < length b.trees → IsDoneWith (tree_core (tree_after depth (tree_start b) choices) k) (slice_index_or outputs k [])
  pub memory_is : (tree_after depth (tree_start b) choices).memory ≡ memory
