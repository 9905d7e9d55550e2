-- Sequential consistency as a relational model: program order and the three relations between accesses have no cycle, and locked
-- instructions are atomic. (Alglave, Maranget, Tautschnig, "Herding Cats", 2014, section 4: SC is acyclic po | rf | co | fr.)
use Rattle.std.specs.Prelude.{◌≡◌, true}
use Rattle.tso_terms.specs.Litmus.{Litmus}
use Rattle.tso_terms.specs.ProgramOrder.{is_before}
use Rattle.tso_terms.specs.declared.execution.Entry.{Entry}
use Rattle.relational_model.specs.Events.{IsAcyclic}
use Rattle.relational_model.specs.Candidates.{Candidate, IsCandidate, events}
use Rattle.relational_model.specs.Relations.{ReadsFrom, IsBefore, FromReads}
use Rattle.relational_model.specs.Model.{IsAtomic}

-- po | rf | co | fr
pub data IsBeforeSequentially (c : Candidate) : Entry → Entry → Type 0 where
  po : (x y : Entry) → is_before x y ≡ true → IsBeforeSequentially c x y
  rf : (w r : Entry) → ReadsFrom c w r → IsBeforeSequentially c w r
  co : (w v : Entry) → IsBefore c w v → IsBeforeSequentially c w v
  fr : (r v : Entry) → FromReads c r v → IsBeforeSequentially c r v

-- a candidate of the test that sequential consistency allows: acyclic po | rf | co | fr; empty rmw & (fre;coe)
pub record IsSequential (t : Litmus) (c : Candidate) : Type 0 where
  pub candidate : IsCandidate t c
  pub atomic : IsAtomic (events t c) c
  pub global : IsAcyclic (events t c) (IsBeforeSequentially c)
