-- Which values can be read at all. In round 0 a location has its first word. Each further round adds what the trees may write
-- where their reads return values of the round before. A round has finitely many values, so a tree has finitely many paths
-- with them.
use Rattle.std.specs.Prelude.{ℕ, ◌≡◌, ◌<◌, ◌≤◌, ◌⊎◌, ◌==◌, if◌then◌else◌, zero, suc, List, [], ◌∷◌, ◌++◌, map, filter, length, slice_index, slice_index_or}
use Rattle.tso_terms.specs.Litmus.{IsTest}
use Rattle.tso_terms.specs.ProgramOrder.{is_write}
use Rattle.basic_laws.specs.Types.{Entry, Loc}
use Rattle.branch_laws.specs.Trees.{Tree, Done, Cut, Reads, Stores, Fences, Locks, written}
use Rattle.branch_laws.specs.Branching.{Branching, straight, IsBranchExecution}

abbrev pub StandsAmong : {A : Type 0} → A → List A → Type 0
StandsAmong x [] = ⊥
StandsAmong x (y ∷ ys) = (x ≡ y) ⊎ StandsAmong x ys

-- what each of these values leads to, one after the other
abbrev pub for_each : {A : Type 0} → List ℕ → (ℕ → List A) → List A
for_each [] ways = []
for_each (v ∷ vs) ways = ways v ++ for_each vs ways

-- a write to this location of a value, seen from another location too
abbrev pub seen_at : ℕ → Loc → ℕ → List ℕ
seen_at target loc value = if loc.0 == target then value ∷ [] else []

-- what a tree may write to a location, where its reads return values of these domains
abbrev pub may_write : (ℕ → List ℕ) → ℕ → Tree → List ℕ
may_write domain target (Done outputs) = []
may_write domain target Cut = []
may_write domain target (Reads loc next) = for_each (domain loc.0) (λ v. may_write domain target (next v))
may_write domain target (Stores loc value next) = seen_at target loc value ++ may_write domain target next
may_write domain target (Fences next) = may_write domain target next
may_write domain target (Locks loc change next) =
    for_each (domain loc.0) (λ v. seen_at target loc (written change v) ++ may_write domain target (next v))

abbrev pub all_may_write : (ℕ → List ℕ) → ℕ → List Tree → List ℕ
all_may_write domain target [] = []
all_may_write domain target (tree ∷ trees) = may_write domain target tree ++ all_may_write domain target trees

-- the values of a location after so many rounds
abbrev pub round : Branching → ℕ → ℕ → List ℕ
round b zero loc = slice_index b.words loc ∷ []
round b (suc n) loc = round b n loc ++ all_may_write (round b n) loc b.trees

-- the read values of all paths of a tree that end, with values of these domains
abbrev pub all_paths : (ℕ → List ℕ) → Tree → List (List ℕ)
all_paths domain (Done outputs) = [] ∷ []
all_paths domain Cut = []
all_paths domain (Reads loc next) = for_each (domain loc.0) (λ v. map (λ values. v ∷ values) (all_paths domain (next v)))
all_paths domain (Stores loc value next) = all_paths domain next
all_paths domain (Fences next) = all_paths domain next
all_paths domain (Locks loc change next) = for_each (domain loc.0) (λ v. map (λ values. v ∷ values) (all_paths domain (next v)))

-- for each core the values are those of a path with values of these domains
abbrev pub ArePaths : (ℕ → List ℕ) → List Tree → List (List ℕ) → Type 0
ArePaths domain trees values =
    (k : ℕ) → k < length trees → StandsAmong (slice_index_or values k []) (all_paths domain (slice_index_or trees k Cut))

-- each path whose values are of some round is a test, so within the limits of tests
abbrev pub EachPathIsTest : Branching → Type 0
EachPathIsTest b = (n : ℕ) (values : List (List ℕ)) → ArePaths (round b n) b.trees values → IsTest (straight b values)

-- how many writes an order has
abbrev pub writes_in : List Entry → ℕ
writes_in order = length (filter is_write order)

-- a further round adds no value
abbrev pub AddsNothing : Branching → ℕ → Type 0
AddsNothing b n = (loc v : ℕ) → StandsAmong v (round b (suc n) loc) → StandsAmong v (round b n loc)

-- no execution has more writes
abbrev pub WriteAtMost : Branching → ℕ → Type 0
WriteAtMost b n = (order : List Entry) (outputs : List (List ℕ)) → IsBranchExecution b order outputs → writes_in order ≤ n

-- so many rounds have every value that an execution reads: a further one adds none, or no execution has more writes
abbrev pub AreEnough : Branching → ℕ → Type 0
AreEnough b n = AddsNothing b n ⊎ WriteAtMost b n
