-- The straight-line test whose final states show what a path read: in a register for each read whose value decides how the
-- path goes on, and where six registers don't do, in a location of the core's own, by a store after the read. (This project's.)
use Rattle.std.specs.Prelude.{ℕ, ◌+◌, ◌<◌, ◌≤◌, ◌≡◌, ◌≢◌, List, [], ◌∷◌, ◌++◌, map, length, None, slice_index, slice_index_or, drop}
use Rattle.tso_terms.specs.Litmus.{Litmus}
use Rattle.tso_terms.specs.Thread.{value_in}
use Rattle.basic_laws.specs.Types.{Reg, Loc, Eax, Instr, Load, StoreImm, StoreReg, SetImm, Fence}
use Rattle.branch_laws.specs.Trees.{Change, Tree, Done, Cut, Reads, Stores, Fences, Locks, operand, locking}
use Rattle.branch_laws.specs.Branching.{Branching, zero_registers}
use Rattle.branch_laws.specs.Rounds.{StandsAmong}

-- where a read's value is to be found at the end: in the register that it goes into, or in a location of the core's own; or it
-- goes into a register and is found nowhere
pub data Keeping : Type 0 where
  InRegister : Reg → Keeping
  InLocation : Reg → Loc → Keeping
  Nowhere : Reg → Keeping

abbrev pub register_for : Keeping → Reg
register_for (InRegister reg) = reg
register_for (InLocation reg own) = reg
register_for (Nowhere reg) = reg

-- the store that notes the value
abbrev pub note_of : Keeping → List Instr
note_of (InRegister reg) = []
note_of (InLocation reg own) = StoreReg own reg ∷ []
note_of (Nowhere reg) = []

abbrev pub first_keeping : List Keeping → Keeping
first_keeping keeps = slice_index_or keeps 0 (Nowhere Eax)

-- the program of a path, each read with its keeping
abbrev pub shown_path : Tree → List ℕ → List Keeping → List Instr
shown_path (Done outputs) values keeps = []
shown_path Cut values keeps = []
shown_path (Reads loc next) values keeps =
    Load (register_for (first_keeping keeps)) loc
    ∷ (note_of (first_keeping keeps) ++ shown_path (next (slice_index values 0)) (drop 1 values) (drop 1 keeps))
shown_path (Stores loc value next) values keeps = StoreImm loc value ∷ shown_path next values keeps
shown_path (Fences next) values keeps = Fence ∷ shown_path next values keeps
shown_path (Locks loc change next) values keeps =
    SetImm (register_for (first_keeping keeps)) (operand change (slice_index values 0))
    ∷ (locking change loc (register_for (first_keeping keeps))
    ∷ (note_of (first_keeping keeps) ++ shown_path (next (slice_index values 0)) (drop 1 values) (drop 1 keeps)))

abbrev pub shown_paths : List Tree → List (List ℕ) → List (List Keeping) → List (List Instr)
shown_paths [] values keeps = []
shown_paths (tree ∷ trees) values keeps =
    shown_path tree (slice_index_or values 0 []) (slice_index_or keeps 0 []) ∷ shown_paths trees (drop 1 values) (drop 1 keeps)

-- the test of these paths, with further locations of these names, whose first words are 0
abbrev pub shown : Branching → List (List ℕ) → List (List ℕ) → List (List Keeping) → Litmus
shown b names values keeps = record {
  name = b.name;
  locations = b.locations ++ names;
  words = b.words ++ map (λ name. 0) names;
  registers = zero_registers b.trees;
  programs = shown_paths b.trees values keeps;
  condition = None;
}

-- the same notes in a tree: each read that is kept in a location is followed by a store of its value
abbrev pub note : Keeping → ℕ → Tree → Tree
note (InRegister reg) v tree = tree
note (InLocation reg own) v tree = Stores own v tree
note (Nowhere reg) v tree = tree

abbrev pub tree_with_notes : Tree → List Keeping → Tree
tree_with_notes (Done outputs) keeps = Done outputs
tree_with_notes Cut keeps = Cut
tree_with_notes (Reads loc next) keeps = Reads loc (λ v. note (first_keeping keeps) v (tree_with_notes (next v) (drop 1 keeps)))
tree_with_notes (Stores loc value next) keeps = Stores loc value (tree_with_notes next keeps)
tree_with_notes (Fences next) keeps = Fences (tree_with_notes next keeps)
tree_with_notes (Locks loc change next) keeps = Locks loc change (λ v. note (first_keeping keeps) v (tree_with_notes (next v) (drop 1 keeps)))

abbrev pub all_noted : List Tree → List (List Keeping) → List Tree
all_noted [] keeps = []
all_noted (tree ∷ trees) keeps = tree_with_notes tree (slice_index_or keeps 0 []) ∷ all_noted trees (drop 1 keeps)

abbrev pub with_notes : Branching → List (List ℕ) → List (List Keeping) → Branching
with_notes b names keeps = record {
  name = b.name;
  locations = b.locations ++ names;
  words = b.words ++ map (λ name. 0) names;
  trees = all_noted b.trees keeps;
}

-- a value that is found nowhere decides nothing: the tree goes on alike, and so does the number that a locked instruction takes
abbrev pub DecidesNothing : Keeping → (ℕ → Tree) → Type 0
DecidesNothing (InRegister reg) next = Unit {0}
DecidesNothing (InLocation reg own) next = Unit {0}
DecidesNothing (Nowhere reg) next = (v w : ℕ) → next v ≡ next w

abbrev pub TakesOneNumber : Keeping → Change → Type 0
TakesOneNumber (InRegister reg) change = Unit {0}
TakesOneNumber (InLocation reg own) change = Unit {0}
TakesOneNumber (Nowhere reg) change = (v w : ℕ) → operand change v ≡ operand change w

-- no later read goes into this register
abbrev pub NoneInto : Reg → List Keeping → Type 0
NoneInto reg [] = Unit {0}
NoneInto reg (k ∷ keeps) = (register_for k ≢ reg) × NoneInto reg keeps

abbrev pub StaysToTheEnd : Keeping → List Keeping → Type 0
StaysToTheEnd (InRegister reg) later = NoneInto reg later
StaysToTheEnd (InLocation reg own) later = Unit {0}
StaysToTheEnd (Nowhere reg) later = Unit {0}

-- the path of these values ends, and each of its reads has a keeping that serves
abbrev pub CanShow : Tree → List ℕ → List Keeping → Type 0
CanShow (Done outputs) [] [] = Unit {0}
CanShow (Reads loc next) (v ∷ values) (k ∷ keeps) = DecidesNothing k next × StaysToTheEnd k keeps × CanShow (next v) values keeps
CanShow (Stores loc value next) values keeps = CanShow next values keeps
CanShow (Fences next) values keeps = CanShow next values keeps
CanShow (Locks loc change next) (v ∷ values) (k ∷ keeps) =
    DecidesNothing k next × TakesOneNumber k change × StaysToTheEnd k keeps × CanShow (next v) values keeps
CanShow _ _ _ = ⊥

-- the locations that notes go into
abbrev pub note_at : Keeping → List ℕ
note_at (InRegister reg) = []
note_at (InLocation reg own) = own.0 ∷ []
note_at (Nowhere reg) = []

abbrev pub notes_at : List Keeping → List ℕ
notes_at [] = []
notes_at (k ∷ keeps) = note_at k ++ notes_at keeps

abbrev pub all_notes_at : List (List Keeping) → List ℕ
all_notes_at [] = []
all_notes_at (keeps ∷ others) = notes_at keeps ++ all_notes_at others

abbrev pub AreApart : List ℕ → Type 0
AreApart [] = Unit {0}
AreApart (x ∷ xs) = (StandsAmong x xs → ⊥) × AreApart xs

-- a tree reads and writes none but the first n locations
abbrev pub UsesFirst : ℕ → Tree → Type 0
UsesFirst n (Done outputs) = Unit {0}
UsesFirst n Cut = Unit {0}
UsesFirst n (Reads loc next) = (loc.0 < n) × ((v : ℕ) → UsesFirst n (next v))
UsesFirst n (Stores loc value next) = (loc.0 < n) × UsesFirst n next
UsesFirst n (Fences next) = UsesFirst n next
UsesFirst n (Locks loc change next) = (loc.0 < n) × ((v : ℕ) → UsesFirst n (next v))

abbrev pub AllCanShow : List Tree → List (List ℕ) → List (List Keeping) → Type 0
AllCanShow [] [] [] = Unit {0}
AllCanShow (tree ∷ trees) (values ∷ others) (keeps ∷ rest) = CanShow tree values keeps × AllCanShow trees others rest
AllCanShow _ _ _ = ⊥

-- notes go into further locations of these names, each into its own
pub record AreOwn (b : Branching) (names : List (List ℕ)) (keeps : List (List Keeping)) : Type 0 where
  pub trees : (k : ℕ) → k < length b.trees → UsesFirst (length b.words) (slice_index_or b.trees k Cut)
  pub further : (own : ℕ) → StandsAmong own (all_notes_at keeps) → (length b.words ≤ own) × (own < length b.words + length names)
  pub apart : AreApart (all_notes_at keeps)

-- what is found of a value at the end
abbrev pub IsFoundAtEnd : Keeping → ℕ → List ℕ → List ℕ → Type 0
IsFoundAtEnd (InRegister reg) v registers memory = value_in registers reg ≡ v
IsFoundAtEnd (InLocation reg own) v registers memory = slice_index memory own.0 ≡ v
IsFoundAtEnd (Nowhere reg) v registers memory = Unit {0}

abbrev pub AreFound : List Keeping → List ℕ → List ℕ → List ℕ → Type 0
AreFound [] [] registers memory = Unit {0}
AreFound (k ∷ keeps) (v ∷ values) registers memory = IsFoundAtEnd k v registers memory × AreFound keeps values registers memory
AreFound _ _ registers memory = ⊥

-- a final state shows these values, core by core
abbrev pub Shows : List (List Keeping) → List (List ℕ) → List (List ℕ) → List ℕ → Type 0
Shows [] [] [] memory = Unit {0}
Shows (keeps ∷ rest) (values ∷ others) (registers ∷ more) memory = AreFound keeps values registers memory × Shows rest others more memory
Shows _ _ _ memory = ⊥

-- other values are the same wherever they are found
abbrev pub IsSameIfFound : Keeping → ℕ → ℕ → Type 0
IsSameIfFound (InRegister reg) v w = w ≡ v
IsSameIfFound (InLocation reg own) v w = w ≡ v
IsSameIfFound (Nowhere reg) v w = Unit {0}

abbrev pub AreSameIfFound : List Keeping → List ℕ → List ℕ → Type 0
AreSameIfFound [] [] [] = Unit {0}
AreSameIfFound (k ∷ keeps) (v ∷ values) (w ∷ others) = IsSameIfFound k v w × AreSameIfFound keeps values others
AreSameIfFound _ _ _ = ⊥

abbrev pub AllSameIfFound : List (List Keeping) → List (List ℕ) → List (List ℕ) → Type 0
AllSameIfFound [] [] [] = Unit {0}
AllSameIfFound (keeps ∷ rest) (values ∷ others) (own ∷ more) = AreSameIfFound keeps values own × AllSameIfFound rest others more
AllSameIfFound _ _ _ = ⊥
