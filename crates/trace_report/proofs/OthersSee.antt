-- The request that a step tells is the one that the other caches see.
use Rattle.trace_report.proofs.Vocabulary.{◌≡◌, ◌≢◌, ◌∙◌, ◌/◌, ℕ, Bool, List, [], ◌∷◌, Option, Some, None, option_map, inl, inr, refl, sym}
use Rattle.trace_report.proofs.Vocabulary.{ap, subst, chosen, MemoryAccess, NoAccess, access_of, Holder, Bus, Choice, Table}
use Rattle.trace_report.proofs.Vocabulary.{Request, Transient, SmD, M, table_of_rows, snoop_column, used, filled, TagSets, at_line, sets_of}
use Rattle.trace_report.proofs.Vocabulary.{Awaited, awaiting, requesting, asked_for, asked_caches_in, completed, completed_in}
use Rattle.trace_report.proofs.Vocabulary.{next_in_place, tag_at, whole_by, Through, Caches, Used, asking_by, completing_by, Configuration}
use Rattle.trace_report.proofs.Vocabulary.{Running, new_machine, machine_after, IsUseFor, sent_by, with_seen, OthersSeeTheRequest}
use Rattle.trace_report.proofs.Vocabulary.{after_choices, Sent, Litmus, awaited_as, request_for, whole_in, machine_use, requested}
use Rattle.multiprocessor.specs.declared.accesses.CacheUse.TheVariants as uses
use Rattle.protocol_tables.specs.declared.state.State as protocol
use Rattle.machine_core.proofs.Snooped.{requested-at, own-alone}
use Rattle.trace_report.specs.Steps as steps
use Rattle.trace_report.proofs.InPlace.{is_write_access}
use Rattle.trace_report.proofs.Flushes.{completes-untold}
use Rattle.trace_report.proofs.FlushesTold.{IsSound, sound-first, sound-after, uses-of}
use Rattle.trace_report.proofs.UsesOnBus.{UsesOn, made, unused, begun, ended}

-- what a core's cache sees of a use of the caches by another core, where this is sent
abbrev SeesSent : Caches → ℕ → Used → Sent → Type 0
SeesSent c k u sent = sets_of u.caches.contents k ≡ with_seen (table_of_rows c.rows) sent.request (sets_of c.contents k)

-- ---- a completion, which no other core sees, and an ask

completed-unseen : (t : Table) (core line k : ℕ) (w : Option Awaited) (caches : List TagSets)
    → k ≢ core
    → sets_of (completed t core line w caches).caches k ≡ sets_of caches k
completed-unseen t core line k None caches n = own-alone core (at_line line (used line M)) caches k n
completed-unseen t core line k (Some x) caches n = by_transient x.transient
  where
    by_transient : (y : Transient) → sets_of (completed_in t core line y x.state x.flushed caches).caches k ≡ sets_of caches k
    by_transient SmD = own-alone core (at_line line (used line x.state)) caches k n
    by_transient _ = own-alone core (at_line line (filled line x.state)) caches k n

completes-unseen : (c : Caches) (core k : ℕ) (what : MemoryAccess)
    → k ≢ core
    → SeesSent c k (completing_by c core what) (sent_by (completing_by c core what).how)
completes-unseen c core k what n =
    unseen what ∙ sym (ap (λ (s : Sent). with_seen (table_of_rows c.rows) s.request (sets_of c.contents k)) (completes-untold c core what))
  where
    unseen : (what : MemoryAccess) → sets_of (completing_by c core what).caches.contents k ≡ sets_of c.contents k
    unseen NoAccess = refl
    unseen _ = completed-unseen (table_of_rows c.rows) core _ k c.awaited c.contents n

asked-seen : (t : Table) (request : Request) (core line k : ℕ) (caches : List TagSets) (o : Option Transient) → k ≢ core
    → sets_of (asked_caches_in t request core line o caches) k
    ≡ with_seen t (sent_by (uses.Asked (option_map (requesting t request line caches) o))).request (sets_of caches k)
unfolding requesting
asked-seen t request core line k caches None n = refl
asked-seen t request core line k caches (Some x) n = requested-at (snoop_column t request) core line caches k n

asks-seen : (c : Caches) (core k : ℕ) (what : MemoryAccess) → k ≢ core → SeesSent c k (asking_by c core what) (sent_by (asking_by c core what).how)
asks-seen c core k NoAccess n = refl
asks-seen c core k what n =
    asked-seen (table_of_rows c.rows) (request_for (is_write_access what)) core _ k c.contents
    (asked_for (request_for (is_write_access what)) core _ c.contents) n

-- ---- an access that is made whole

whole-seen : (t : Table) (write : Bool) (core line k : ℕ) (caches : List TagSets) (copy next : Option protocol.State) → k ≢ core
    → sets_of (whole_in t write core line caches copy next).caches k
    ≡ with_seen t (sent_by (Through (whole_in t write core line caches copy next).report)).request (sets_of caches k)
unfolding awaiting requesting
whole-seen t write core line k caches copy (Some state) n = own-alone core (at_line line (used line state)) caches k n
whole-seen t write core line k caches copy None n =
    completed-unseen t core line k
    (Some (awaiting t (request_for write) line caches (awaited_as write copy)))
    (requested (snoop_column t (request_for write)) core line caches) n
    ∙ requested-at (snoop_column t (request_for write)) core line caches k n

whole-seen-by : (c : Caches) (core loc k : ℕ) (write : Bool) → k ≢ core → SeesSent c k (whole_by c core loc write) (sent_by (whole_by c core loc write).how)
whole-seen-by c core loc k write n =
    let line = loc / c.shape.words in
    whole-seen (table_of_rows c.rows) write core line k c.contents (tag_at core line c.contents)
    (next_in_place (table_of_rows c.rows) write (tag_at core line c.contents)) n

use-seen : (c : Caches) (core k : ℕ) (what : MemoryAccess) (u : Used) → IsUseFor c core what u → k ≢ core → SeesSent c k u (sent_by u.how)
use-seen c core k NoAccess u (inl is) n = subst (λ (x : Used). SeesSent c k x (sent_by x.how)) (sym is) refl
use-seen c core k NoAccess u (inr is) n = subst (λ (x : Used). SeesSent c k x (sent_by x.how)) (sym is) refl
use-seen c core k what u is n = subst (λ (x : Used). SeesSent c k x (sent_by x.how)) (sym is) (whole-seen-by c core _ k (is_write_access what) n)

-- ---- a choice on either bus

choice-sees : (on : Bus) (c : Caches) (a : Choice) (before after : Choice → MemoryAccess) (holder next : Holder) (u : Used) (k : ℕ) → k ≢ chosen a
    → UsesOn on c a before after holder next u → SeesSent c k u (sent_by u.how)
choice-sees on c a before after holder next u k n (made it why stays) = use-seen c (chosen a) k (before a) u it n
choice-sees on c a before after holder next u k n (unused is stays) = subst (λ (x : Used). SeesSent c k x (sent_by x.how)) (sym is) refl
choice-sees on c a before after holder next u k n (begun split is some free held same) =
    subst (λ (x : Used). SeesSent c k x (sent_by x.how)) (sym is) (asks-seen c (chosen a) k (before a) n)
choice-sees on c a before after holder next u k n (ended split is some held rest) =
    subst (λ (x : Used). SeesSent c k x (sent_by x.how)) (sym is) (completes-unseen c (chosen a) k (before a) n)

others-see : (m : Running) (choice : Choice) → IsSound m → OthersSeeTheRequest m choice
unfolding steps.trace_step_of
others-see m choice sound core n =
    choice-sees m.bus m.statistics.caches choice (access_of m.test m.depth m.state.flat)
    (access_of m.test m.depth (machine_after m choice).state.flat) m.state.holder (machine_after m choice).state.holder
    (machine_use m choice) core n (uses-of m choice sound).0

-- ---- along the choices

sound-along : (m : Running) (choices : List Choice) → IsSound m → IsSound (after_choices m choices)
sound-along m [] s = s
sound-along m (c ∷ cs) s = sound-along (machine_after m c) cs (sound-after m c s)

pub others-told : (table : Table) (c : Configuration) (t : Litmus) (choices : List Choice) (choice : Choice)
    → OthersSeeTheRequest (after_choices (new_machine table c t) choices) choice
others-told table c t choices choice =
    others-see (after_choices (new_machine table c t) choices) choice (sound-along (new_machine table c t) choices (sound-first table c t))
