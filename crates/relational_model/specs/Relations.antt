-- The relations between the events of a candidate: reads-from, coherence and from-reads, beside program order.
-- (Alglave, Maranget, Tautschnig, "Herding Cats", 2014, section 4: rf, co and fr.)
use Rattle.std.specs.Prelude.{◌≡◌, ◌==◌, ◌&&◌, ◌||◌, Bool, true, Option, Some, None, List}
use Rattle.tso_terms.specs.ProgramOrder.{is_read, is_write}
use Rattle.tso_terms.specs.declared.execution.Entry.{Entry}
use Rattle.relational_model.specs.Events.{IsIn, IsEarlier}
use Rattle.relational_model.specs.Candidates.{Candidate}

-- a read or a write, and no fence
abbrev pub is_access : Entry → Bool
is_access x = is_read x || is_write x

-- both are accesses of one location
abbrev pub share_location : Entry → Entry → Bool
share_location x y = is_access x && is_access y && (x.loc.0 == y.loc.0)

-- rf: the read r reads from the write w
pub record ReadsFrom (c : Candidate) (w r : Entry) : Type 0 where
  pub read : is_read r ≡ true
  pub source : c.source r ≡ Some w

-- co: w is before the later write v in the coherence order of their location
abbrev pub IsBefore : Candidate → Entry → Entry → Type 0
IsBefore c w v = IsEarlier (c.coherence w.loc.0) w v

-- a write that comes after this one; after the initial write each write stands
abbrev pub StandsAfter : List Entry → Option Entry → Entry → Type 0
StandsAfter writes None v = IsIn writes v
StandsAfter writes (Some w) v = IsEarlier writes w v

-- fr = rf^-1; co: the read r reads from a write that is before v in the coherence order of their location
pub record FromReads (c : Candidate) (r v : Entry) : Type 0 where
  pub read : is_read r ≡ true
  pub overwritten : StandsAfter (c.coherence r.loc.0) (c.source r) v
