-- Locked instructions of one location take turns: what each reads is the write directly before its own in coherence.
-- (herd's x86tso.cat: empty rmw & (fre;coe), with uniproc.)
use Rattle.std.specs.Prelude.{ℕ, ◌≡◌, true, List, ◌∷◌, ◌++◌, Option, Some, None}
use Rattle.std.specs.Prelude.{◌⊎◌}
use Rattle.tso_terms.specs.Litmus.{Litmus}
use Rattle.tso_terms.specs.ProgramOrder.{writes_to}
use Rattle.basic_laws.specs.Types.{Entry, LR, LW}
use Rattle.relational_model.specs.Events.{IsIn}
use Rattle.relational_model.specs.Candidates.{Candidate, events}
use Rattle.relational_model.specs.CandidatesOfOrders.{last_in}
use Rattle.relational_model.specs.Model.{IsAllowed, ArePair}

-- r and w are the two parts of a locked instruction, and r reads from what comes directly before w in coherence: the write there,
-- or the initial one where w is the first
pub record TakesItsTurn (t : Litmus) (c : Candidate) (r w : Entry) : Type 0 where
  pub inside : IsIn (events t c) w
  pub pair : ArePair r w
  pub location : w.loc.0 ≡ r.loc.0
  pub earlier : List Entry
  pub later : List Entry
  pub coherence : c.coherence r.loc.0 ≡ earlier ++ (w ∷ later)
  pub source : c.source r ≡ last_in earlier

-- a load part of a locked instruction on this location
pub record IsLoadPart (t : Litmus) (c : Candidate) (loc : ℕ) (r : Entry) : Type 0 where
  pub inside : IsIn (events t c) r
  pub kind : r.kind ≡ LR
  pub location : r.loc.0 ≡ loc

-- only locked instructions write to this location
abbrev pub IsWrittenByLockedAlone : Litmus → Candidate → ℕ → Type 0
IsWrittenByLockedAlone t c loc = (w : Entry) → IsIn (events t c) w → writes_to loc w ≡ true → w.kind ≡ LW

-- a load part of a locked instruction on this location reads from this source
pub record IsReadByLocked (t : Litmus) (c : Candidate) (loc : ℕ) (source : Option Entry) : Type 0 where
  pub reader : Entry
  pub part : IsLoadPart t c loc reader
  pub reads : c.source reader ≡ source

-- ---- the laws

abbrev pub LockedInstructionsTakeTurns : Type 0
LockedInstructionsTakeTurns =
    (t : Litmus) (c : Candidate) (r : Entry) → IsAllowed t c → IsIn (events t c) r → r.kind ≡ LR → (w : Entry) × TakesItsTurn t c r w

abbrev pub NoTwoReadOneSource : Type 0
NoTwoReadOneSource =
    (t : Litmus) (c : Candidate) (loc : ℕ) (r s : Entry) → IsAllowed t c → IsLoadPart t c loc r → IsLoadPart t c loc s
    → c.source r ≡ c.source s → r ≡ s

abbrev pub SomebodyReadsTheInitialWord : Type 0
SomebodyReadsTheInitialWord =
    (t : Litmus) (c : Candidate) (loc : ℕ) (w : Entry) → IsAllowed t c → IsWrittenByLockedAlone t c loc
    → IsIn (events t c) w → writes_to loc w ≡ true → IsReadByLocked t c loc None

abbrev pub EachButTheLastIsRead : Type 0
EachButTheLastIsRead =
    (t : Litmus) (c : Candidate) (loc : ℕ) (w : Entry) → IsAllowed t c → IsWrittenByLockedAlone t c loc
    → IsIn (events t c) w → writes_to loc w ≡ true → (last_in (c.coherence loc) ≡ Some w) ⊎ IsReadByLocked t c loc (Some w)
