-- What a choice makes of the copies that are sent to memory: those that its step tells, those that it counts, and those that are
-- told already and counted later.
use Rattle.trace_report.proofs.Vocabulary.{◌≡◌, ◌≢◌, ◌∙◌, ◌/◌, ℕ, Bool, true, false, List, Option, Some, None, refl, sym, ap, subst, chosen}
use Rattle.trace_report.proofs.Vocabulary.{MemoryAccess, NoAccess, Holder, Bus, Core, Choice, Table, transient_of, Request, GetS}
use Rattle.trace_report.proofs.Vocabulary.{GetM, Transient, SmD, table_of_rows, TagSets, Awaited, tag_at, or_invalid, asked_for, asking}
use Rattle.trace_report.proofs.Vocabulary.{awaiting, requesting, completed, completed_in, next_in_place, whole_in, whole_by, Through}
use Rattle.trace_report.proofs.Vocabulary.{Caches, Used, IsUseFor, asking_by, is_awaited, nothing_sent, sent_by, sent_with, inl, inr}
use Rattle.trace_report.proofs.Vocabulary.{completing_by, request_for}
use Rattle.std.specs.Option.{option_map}
use Rattle.multiprocessor.specs.declared.accesses.CacheUse.TheVariants as uses
use Rattle.protocol_tables.specs.declared.state.State.TheVariants as tag
use Rattle.protocol_tables.specs.declared.state.State as protocol
use Rattle.trace_report.proofs.InPlace.{flush_in, asking-clean, use-keeps, is_write_access}
use Rattle.trace_report.proofs.UsesOnBus.{UsesOn, made, unused, begun, ended}

-- whose copy was sent for what is awaited
abbrev pub flush_awaited : Option Awaited → Option Core
flush_awaited None = None
flush_awaited (Some x) = x.flushed

-- for an upgrade nothing was sent
abbrev pub UpgradesQuietly : Option Awaited → Type 0
UpgradesQuietly None = Unit {0}
UpgradesQuietly (Some x) = x.transient ≡ SmD → x.flushed ≡ None

-- what is told is counted at once; or it is awaited from now on; or what was awaited is counted
pub data Turns (waits then_waits : Bool) (before after : Option Awaited) (told how : Option Core) : Type 0 where
  whole : told ≡ how → after ≡ before → then_waits ≡ waits → Turns waits then_waits before after told how
  asked : told ≡ flush_awaited after → how ≡ None → waits ≡ false → then_waits ≡ true → UpgradesQuietly after → Turns waits then_waits before after told how
  arrived : told ≡ None → how ≡ flush_awaited before → after ≡ None → Turns waits then_waits before after told how

-- ---- it is asked for

awaiting-quiet : (t : Table) (request : Request) (line : ℕ) (caches : List TagSets) (s : protocol.State)
    → UpgradesQuietly (option_map (awaiting t request line caches) (transient_of s request))
unfolding awaiting
awaiting-quiet t GetS line caches tag.I = λ q. absurd (let z : ⊥ = cc in z)
awaiting-quiet t GetS line caches _ = tt
awaiting-quiet t GetM line caches tag.E = tt
awaiting-quiet t GetM line caches tag.M = tt
awaiting-quiet t GetM line caches _ = λ q. refl

asking-quiet : (t : Table) (request : Request) (core line : ℕ) (caches : List TagSets) → UpgradesQuietly (asking t request core line caches).awaited
asking-quiet t request core line caches = awaiting-quiet t request line caches (or_invalid (tag_at core line caches))

asks-quiet : (c : Caches) (core : ℕ) (what : MemoryAccess)
    → UpgradesQuietly c.awaited
    → UpgradesQuietly (asking_by c core what).caches.awaited × (flush_in (asking_by c core what).how ≡ None)
asks-quiet c core NoAccess quiet = (quiet, refl)
asks-quiet c core what quiet = (asking-quiet (table_of_rows c.rows) (request_for (is_write_access what)) core _ c.contents, (asking-clean c core what).1)

-- ---- it is completed

completed-flush : (t : Table) (core line : ℕ) (w : Option Awaited) (caches : List TagSets)
    → UpgradesQuietly w
    → (completed t core line w caches).report.access.flushed ≡ flush_awaited w
completed-flush t core line None caches quiet = refl
completed-flush t core line (Some x) caches quiet = by_transient x.transient quiet
  where
    by_transient : (transient : Transient)
        → (transient ≡ SmD → x.flushed ≡ None)
        → (completed_in t core line transient x.state x.flushed caches).report.access.flushed ≡ x.flushed
    by_transient SmD q = sym (q refl)
    by_transient _ q = refl

-- and nothing is told of it
pub completed-request : (t : Table) (core line : ℕ) (w : Option Awaited) (caches : List TagSets) → (completed t core line w caches).report.request ≡ None
completed-request t core line None caches = refl
completed-request t core line (Some x) caches = by_transient x.transient
  where
    by_transient : (transient : Transient) → (completed_in t core line transient x.state x.flushed caches).report.request ≡ None
    by_transient SmD = refl
    by_transient _ = refl

pub completes-untold : (c : Caches) (core : ℕ) (what : MemoryAccess) → sent_by (completing_by c core what).how ≡ nothing_sent
completes-untold c core NoAccess = refl
completes-untold c core _ = ap sent_with (completed-request (table_of_rows c.rows) core _ c.awaited c.contents)

-- then nothing is awaited any more
completes-flush : (c : Caches) (core : ℕ) (what : MemoryAccess) → what ≢ NoAccess → UpgradesQuietly c.awaited
    → (flush_in (completing_by c core what).how ≡ flush_awaited c.awaited) × ((completing_by c core what).caches.awaited ≡ None)
completes-flush c core NoAccess some quiet = absurd (some refl)
completes-flush c core _ some quiet = (completed-flush (table_of_rows c.rows) core _ c.awaited c.contents quiet, refl)

-- ---- it is told where it is asked for

asked-told : (t : Table) (request : Request) (line : ℕ) (caches : List TagSets) (o : Option Transient)
    → (sent_by (uses.Asked (option_map (requesting t request line caches) o))).flushed ≡ flush_awaited (option_map (awaiting t request line caches) o)
unfolding awaiting requesting
asked-told t request line caches None = refl
asked-told t request line caches (Some x) = refl

asks-told : (c : Caches) (core : ℕ) (what : MemoryAccess)
    → flush_awaited c.awaited ≡ None
    → (sent_by (asking_by c core what).how).flushed ≡ flush_awaited (asking_by c core what).caches.awaited
asks-told c core NoAccess resting = sym resting
asks-told c core what resting =
    asked-told (table_of_rows c.rows) (request_for (is_write_access what)) _ c.contents (asked_for (request_for (is_write_access what)) core _ c.contents)

-- ---- and with an access that is made whole

whole-told : (t : Table) (write : Bool) (core line : ℕ) (caches : List TagSets) (copy next : Option protocol.State)
    → (sent_by (Through (whole_in t write core line caches copy next).report)).flushed ≡ flush_in (Through (whole_in t write core line caches copy next).report)
unfolding awaiting requesting
whole-told t write core line caches copy (Some next) = refl
whole-told t true core line caches None None = refl
whole-told t true core line caches (Some state) None = refl
whole-told t false core line caches copy None = refl

whole-told-by : (c : Caches) (core loc : ℕ) (write : Bool) → (sent_by (whole_by c core loc write).how).flushed ≡ flush_in (whole_by c core loc write).how
whole-told-by c core loc write =
    let line = loc / c.shape.words in
    whole-told (table_of_rows c.rows) write core line c.contents (tag_at core line c.contents)
    (next_in_place (table_of_rows c.rows) write (tag_at core line c.contents))

use-told : (c : Caches) (core : ℕ) (what : MemoryAccess) (u : Used) → IsUseFor c core what u → (sent_by u.how).flushed ≡ flush_in u.how
use-told c core NoAccess u (inl is) = rw is refl
use-told c core NoAccess u (inr is) = rw is refl
use-told c core what u is = rw is (whole-told-by c core _ (is_write_access what))

-- ---- a choice on either bus

module _ (c : Caches) (a : Choice) (before after : Choice → MemoryAccess) (holder next : Holder) (u : Used) (quiet : UpgradesQuietly c.awaited)
    (resting : is_awaited holder ≡ false → flush_awaited c.awaited ≡ None) where
  abbrev TurnsOn : Type 0
  TurnsOn = Turns (is_awaited holder) (is_awaited next) c.awaited u.caches.awaited (sent_by u.how).flushed (flush_in u.how)

  pub choice-turn : (on : Bus) → UsesOn on c a before after holder next u → TurnsOn
  choice-turn on (made it why stays) = whole (use-told c (chosen a) (before a) u it) (use-keeps c (chosen a) (before a) u it).1 stays.waits
  choice-turn on (unused is stays) = whole (rw is refl) (ap (λ (x : Used). x.caches.awaited) is) stays.waits
  choice-turn on (begun split is some free held same) =
      let q = asks-quiet c (chosen a) (before a) quiet in
      asked (subst (λ (x : Used). (sent_by x.how).flushed ≡ flush_awaited x.caches.awaited) (sym is)
      (asks-told c (chosen a) (before a) (resting (ap is_awaited free))))
      (ap (λ (x : Used). flush_in x.how) is ∙ q.1) (ap is_awaited free) (ap is_awaited held)
      (subst (λ (x : Used). UpgradesQuietly x.caches.awaited) (sym is) q.0)
  choice-turn on (ended split is some held rest) =
      let f = completes-flush c (chosen a) (before a) some quiet in
      arrived (ap (λ (x : Used). (sent_by x.how).flushed) is
      ∙ ap (λ x. x.flushed) (completes-untold c (chosen a) (before a)))
      (ap (λ (x : Used). flush_in x.how) is ∙ f.0) (ap (λ (x : Used). x.caches.awaited) is ∙ f.1)
