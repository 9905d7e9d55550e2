-- Full cases: those in which each question that may be asked is answered.
use Rattle.std.specs.Prelude.{◌≡◌, ◌&&◌, ◌||◌, Bool, true, false, not, List, [], ◌∷◌, Option, Some, None}
use Rattle.std.specs.List.{list_any}
use Rattle.tso_terms.specs.Litmus.{Litmus}
use Rattle.tso_terms.specs.ProgramOrder.{is_read, is_write, writes_to}
use Rattle.tso_terms.specs.declared.execution.Entry.{Entry}
use Rattle.relational_model.specs.Events.{IsIn}
use Rattle.refutation_laws.specs.Known.{Known, events_of, same_event, is_event, comes_before}
use Rattle.refutation_laws.specs.declared.known.Source.{Source}
use Rattle.refutation_laws.specs.declared.known.Pair.{Pair}
use Rattle.refutation_laws.specs.Edges.{is_between}
use Rattle.refutation_laws.specs.Refutations.{Node, ReadsFrom, ComesFirst}

-- the initial write, or one of the test's to the location of the read
abbrev pub IsPossibleSource : Litmus → Entry → Option Entry → Type 0
IsPossibleSource t r None = Unit {0}
IsPossibleSource t r (Some w) = IsIn (events_of t) w × (writes_to r.loc.0 w ≡ true)

abbrev pub ArePossible : Litmus → List Source → Type 0
ArePossible t [] = Unit {0}
ArePossible t (s ∷ ss) = IsPossibleSource t s.read s.write × ArePossible t ss

abbrev pub has_source : Known → Entry → Bool
has_source k r = list_any (λ (s : Source). same_event s.read r) k.sources

abbrev pub are_ordered : Known → Entry → Entry → Bool
are_ordered k w v = comes_before k w v || comes_before k v w

-- whether a question may be asked, whatever is known
abbrev pub may_ask : Litmus → Node → Bool
may_ask t (ReadsFrom r) = is_event t r && is_read r
may_ask t (ComesFirst w v) =
    is_event t w && is_event t v && is_write w && writes_to w.loc.0 v && not (same_event w v)
may_ask t _ = false

abbrev pub is_answered : Known → Node → Bool
is_answered k (ReadsFrom r) = has_source k r
is_answered k (ComesFirst w v) = are_ordered k w v
is_answered k _ = true

pub record IsFull (t : Litmus) (k : Known) : Type 0 where
  pub possible : ArePossible t k.sources
  pub sources : (r : Entry) → IsIn (events_of t) r → may_ask t (ReadsFrom r) ≡ true → has_source k r ≡ true
  pub order : (w v : Entry) → IsIn (events_of t) w → IsIn (events_of t) v → may_ask t (ComesFirst w v) ≡ true → are_ordered k w v ≡ true

-- ---- cases that are asked one question after the other

-- no two answers are on one read
abbrev pub AreSingle : List Source → Type 0
AreSingle [] = Unit {0}
AreSingle (s ∷ ss) = (list_any (λ (q : Source). same_event q.read s.read) ss ≡ false) × AreSingle ss

abbrev pub AreOfReads : List Source → Type 0
AreOfReads [] = Unit {0}
AreOfReads (s ∷ ss) = (is_read s.read ≡ true) × AreOfReads ss

-- two different writes to one location
abbrev pub IsPairOfWrites : Pair → Type 0
IsPairOfWrites p = (is_write p.first ≡ true) × ((writes_to p.first.loc.0 p.second ≡ true) × (same_event p.first p.second ≡ false))

abbrev pub ArePairsOfWrites : List Pair → Type 0
ArePairsOfWrites [] = Unit {0}
ArePairsOfWrites (p ∷ ps) = IsPairOfWrites p × ArePairsOfWrites ps

pub record IsSound (t : Litmus) (k : Known) : Type 0 where
  pub possible : ArePossible t k.sources
  pub single : AreSingle k.sources
  pub reads : AreOfReads k.sources
  pub pairs : ArePairsOfWrites k.order

-- no write is known to come between the parts of a locked instruction
abbrev pub NoneBetween : Litmus → Known → Type 0
NoneBetween t k =
    (r v w : Entry) → IsIn (events_of t) r → IsIn (events_of t) v → IsIn (events_of t) w → is_between t k r v w ≡ true → ⊥
