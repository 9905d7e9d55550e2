-- Where locations and lines lie, and lines in the order of their use, in caches small enough to be followed by eye.
use Rattle.std.specs.Prelude.{ℕ, Bool, List, [], ◌∷◌, Option}
use Rattle.worked_examples.specs.Vocabulary.{Accessed, Core, M, S, State, TagSet, TagSets}
use Rattle.snoop_bus.specs.declared.access.Access.{Access}
use Rattle.snoop_bus.specs.declared.access.AccessKind.{AccessKind}

-- a set with room for so many lines, and these lines with their states, the most recently used first
abbrev pub set_for : ℕ → List (ℕ × State) → TagSet
set_for ways tags = record { tags = tags; ways = ways }

-- what an access was, and all caches after it
abbrev pub outcome_of : Accessed → Access × List TagSets
outcome_of a = (a.report.access, a.caches)

-- what it was: whether a dirty line left, whose copy was sent to memory; and all caches after it
abbrev pub was : AccessKind → Bool → Option Core → List TagSets → Access × List TagSets
was kind wrote_back flushed caches = (record { kind = kind; wrote_back = wrote_back; flushed = flushed }, caches)

abbrev pub p1 : Core
p1 = record { 0 = 1 }

abbrev pub alone : ℕ → TagSet
alone line = set_for 3 ((line, S) ∷ [])

-- ---- lines in the order of their use
-- Two caches of one set. P0 used line 2, then line 4, then line 7.

-- these lines of P0, and these of P1, in sets for four lines
abbrev pub two_sets : List (ℕ × State) → List (ℕ × State) → List TagSets
two_sets p q = (set_for 4 p ∷ []) ∷ (set_for 4 q ∷ []) ∷ []

-- P0's set, with line 4 in this state, and with line 4 in front of it in this state
abbrev pub four_second : State → List (ℕ × State)
four_second state = (7, S) ∷ (4, state) ∷ (2, S) ∷ []

abbrev pub four_first : State → List (ℕ × State)
four_first state = (4, state) ∷ (7, S) ∷ (2, S) ∷ []

-- the same in a set for three lines, the last of which is dirty
abbrev pub full : List (ℕ × State) → List TagSets
full p = (set_for 3 p ∷ []) ∷ (set_for 3 [] ∷ []) ∷ []

abbrev pub dirty_last : List (ℕ × State)
dirty_last = (7, S) ∷ (4, S) ∷ (2, M) ∷ []

-- P1 used line 7, then line 4
abbrev pub shares_both : List (ℕ × State)
shares_both = (4, S) ∷ (7, S) ∷ []

abbrev pub shares_seven : List (ℕ × State)
shares_seven = (7, S) ∷ []

-- P1 used line 5, which it has modified, and then line 7
abbrev pub has_five : State → List (ℕ × State)
has_five state = (7, S) ∷ (5, state) ∷ []

-- three caches, of which the second has line 4 between two others
abbrev pub three_sets : List (ℕ × State) → List (ℕ × State) → List (ℕ × State) → List TagSets
three_sets p q r = (set_for 4 p ∷ []) ∷ (set_for 4 q ∷ []) ∷ (set_for 4 r ∷ []) ∷ []
