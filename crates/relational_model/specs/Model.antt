-- The relational model of x86-TSO: three conditions on candidates, each with the line of herd's x86tso.cat that it says.
-- (Alglave, Maranget, Tautschnig, "Herding Cats", 2014, sections 4 and 5, for the same three as SC PER LOCATION, the
-- atomicity of read-modify-writes and propagation under TSO.)
use Rattle.std.specs.Prelude.{◌≡◌, ◌≢◌, ◌||◌, Bool, true, false, List}
use Rattle.tso_terms.specs.Litmus.{Litmus}
use Rattle.tso_terms.specs.ProgramOrder.{is_before, is_read, is_write}
use Rattle.basic_laws.specs.Types.{Entry, Kind, F, LR, LW}
use Rattle.relational_model.specs.Events.{IsIn, IsAcyclic}
use Rattle.relational_model.specs.Candidates.{Candidate, IsCandidate, events}
use Rattle.relational_model.specs.Relations.{is_access, share_location, ReadsFrom, IsBefore, FromReads}

-- ---- uniproc: the accesses of one location are sequentially consistent

-- po-loc | com, with com = rf | fr | co
pub data IsBeforeOnLocation (c : Candidate) : Entry → Entry → Type 0 where
  po_loc : (x y : Entry) → is_before x y ≡ true → share_location x y ≡ true → IsBeforeOnLocation c x y
  rf : (w r : Entry) → ReadsFrom c w r → IsBeforeOnLocation c w r
  co : (w v : Entry) → IsBefore c w v → IsBeforeOnLocation c w v
  fr : (r v : Entry) → FromReads c r v → IsBeforeOnLocation c r v

-- ---- atomicity of locked instructions

-- rmw: the two parts of one locked instruction
pub record ArePair (r w : Entry) : Type 0 where
  pub read : r.kind ≡ LR
  pub write : w.kind ≡ LW
  pub core : r.core.0 ≡ w.core.0
  pub place : r.place ≡ w.place

-- empty rmw & (fre;coe): in coherence no write of another core comes between what the load part read and the store part
abbrev pub IsAtomic : List Entry → Candidate → Type 0
IsAtomic es c =
    (r v w : Entry) → IsIn es r → IsIn es v → IsIn es w → ArePair r w
    → FromReads c r v → r.core.0 ≢ v.core.0 → IsBefore c v w → v.core.0 ≢ w.core.0 → ⊥

-- ---- global happens-before

-- a part of a locked instruction
abbrev pub is_locked_kind : Kind → Bool
is_locked_kind LR = true
is_locked_kind LW = true
is_locked_kind _ = false

abbrev pub is_locked : Entry → Bool
is_locked x = is_locked_kind x.kind

-- ghb = mfence | implied | po_ghb | rfe | fr | co
pub data HappensBefore (es : List Entry) (c : Candidate) : Entry → Entry → Type 0 where
  -- po_ghb = WW(po) | RM(po): a write before a write, a read before each access
  write_before_write : (x y : Entry) → is_before x y ≡ true → is_write x ≡ true → is_write y ≡ true → HappensBefore es c x y
  read_before_access : (x y : Entry) → is_before x y ≡ true → is_read x ≡ true → is_access y ≡ true → HappensBefore es c x y
  -- mfence: a fence comes between them
  mfence : (x f y : Entry) → IsIn es f → f.kind ≡ F → is_before x f ≡ true → is_before f y ≡ true → HappensBefore es c x y
  -- implied: a write before a read (WR(po)), one of them a part of a locked instruction
  implied : (x y : Entry) → is_before x y ≡ true → is_write x ≡ true → is_read y ≡ true → (is_locked x || is_locked y) ≡ true
      → HappensBefore es c x y
  -- rfe: a read from another core's write
  rfe : (w r : Entry) → ReadsFrom c w r → w.core.0 ≢ r.core.0 → HappensBefore es c w r
  co : (w v : Entry) → IsBefore c w v → HappensBefore es c w v
  fr : (r v : Entry) → FromReads c r v → HappensBefore es c r v

-- a candidate of the test that x86-TSO allows: acyclic po-loc | com; empty rmw & (fre;coe); acyclic ghb
pub record IsAllowed (t : Litmus) (c : Candidate) : Type 0 where
  pub candidate : IsCandidate t c
  pub uniproc : IsAcyclic (events t c) (IsBeforeOnLocation c)
  pub atomic : IsAtomic (events t c) c
  pub global : IsAcyclic (events t c) (HappensBefore (events t c) c)

-- a candidate of the test that it forbids
pub record IsForbidden (t : Litmus) (c : Candidate) : Type 0 where
  pub candidate : IsCandidate t c
  pub never : IsAllowed t c → ⊥

-- a candidate of the test that uniproc alone forbids: it meets the two other conditions
pub record IsForbiddenByUniproc (t : Litmus) (c : Candidate) : Type 0 where
  pub candidate : IsCandidate t c
  pub atomic : IsAtomic (events t c) c
  pub global : IsAcyclic (events t c) (HappensBefore (events t c) c)
  pub never : IsAcyclic (events t c) (IsBeforeOnLocation c) → ⊥
