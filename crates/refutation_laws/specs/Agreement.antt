-- A candidate that gives a branch's answers: each read has the source that is named there, and of two writes the one named first
-- is before the other in coherence.
use Rattle.std.specs.Prelude.{◌≡◌, true, List, [], ◌∷◌, Option, Some, None}
use Rattle.tso_terms.specs.Litmus.{Litmus}
use Rattle.tso_terms.specs.ProgramOrder.{is_read}
use Rattle.tso_terms.specs.declared.execution.Entry.{Entry}
use Rattle.relational_model.specs.Events.{IsIn}
use Rattle.relational_model.specs.Candidates.{Candidate, events}
use Rattle.relational_model.specs.Relations.{IsBefore}
use Rattle.refutation_laws.specs.Known.{Known, bare}
use Rattle.refutation_laws.specs.declared.known.Source.{Source}
use Rattle.refutation_laws.specs.declared.known.Pair.{Pair}

-- x is the candidate's entry of the event e
pub record Stands (t : Litmus) (c : Candidate) (e x : Entry) : Type 0 where
  pub inside : IsIn (events t c) x
  pub same : bare e ≡ bare x

-- both are the initial write, or one write
abbrev pub IsSameSource : Option Entry → Option Entry → Type 0
IsSameSource None None = Unit {0}
IsSameSource (Some w) (Some z) = bare w ≡ bare z
IsSameSource _ _ = ⊥

abbrev pub HasSource : Litmus → Candidate → Source → Type 0
HasSource t c s = (r : Entry) → Stands t c s.read r → (is_read r ≡ true) × IsSameSource s.write (c.source r)

abbrev pub HasPair : Litmus → Candidate → Pair → Type 0
HasPair t c p = (w v : Entry) → Stands t c p.first w → Stands t c p.second v → IsBefore c w v

abbrev pub HasSources : Litmus → Candidate → List Source → Type 0
HasSources t c [] = Unit {0}
HasSources t c (s ∷ ss) = HasSource t c s × HasSources t c ss

abbrev pub HasPairs : Litmus → Candidate → List Pair → Type 0
HasPairs t c [] = Unit {0}
HasPairs t c (p ∷ ps) = HasPair t c p × HasPairs t c ps

pub record Agrees (t : Litmus) (c : Candidate) (k : Known) : Type 0 where
  pub sources : HasSources t c k.sources
  pub order : HasPairs t c k.order
