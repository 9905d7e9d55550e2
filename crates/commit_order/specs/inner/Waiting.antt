-- Load parts that wait for their store parts: on a split bus entries of other cores may be committed between the two.
use Rattle.std.specs.Prelude.{ℕ, ◌≡◌, ◌≢◌, ◌==◌, if◌then◌else◌, IsTrue, List, [], ◌∷◌, ◌++◌, Option, None, Some}
use Rattle.tso_terms.specs.Together.{put_before, put_together}
use Rattle.basic_laws.specs.Types.{Entry, LR}
use Rattle.commit_order.specs.Pairs.{has_its_store_part, are_answered}

-- these load parts, each put directly before its store part
abbrev pub all_put : List Entry → List Entry → List Entry
all_put [] es = es
all_put (x ∷ xs) es = put_before x (all_put xs es)

-- the first of these that is of the core, and the others
abbrev pub first_of_core : ℕ → List Entry → Option Entry
first_of_core core [] = None
first_of_core core (x ∷ xs) = if x.core.0 == core then Some x else first_of_core core xs

abbrev pub others_of : ℕ → List Entry → List Entry
others_of core [] = []
others_of core (x ∷ xs) = if x.core.0 == core then xs else x ∷ others_of core xs

-- none of these is of the core
abbrev pub IsNoneOf : ℕ → List Entry → Type 0
IsNoneOf core [] = Unit {0}
IsNoneOf core (x ∷ xs) = (x.core.0 ≢ core) × IsNoneOf core xs

-- each of these is the one load part of its core, and is answered by these entries
abbrev pub AreWaiting : List Entry → List Entry → Type 0
AreWaiting [] es = Unit {0}
AreWaiting (x ∷ xs) es = (x.kind ≡ LR) × IsTrue (has_its_store_part x es) × IsNoneOf x.core.0 xs × AreWaiting xs es

-- what is built so far, and after it what is left with those that wait put in, is the whole put together
pub record IsBuiltSoFar (order waiting left whole : List Entry) : Type 0 where
  pub put : order ++ all_put waiting (put_together left) ≡ put_together whole
  pub waits : AreWaiting waiting left
  pub answered : IsTrue (are_answered left)
