-- The flushes that a trace tells, and those that are counted.
use Rattle.multiprocessor.specs.declared.accesses.CacheUse.TheVariants as uses
use Rattle.trace_report.proofs.Vocabulary.{◌≡◌, ◌∙◌, ℕ, ◌+◌, ◌==◌, ◌&&◌, Bool, true, false, List, [], ◌∷◌, length, map, Option, Some, None}
use Rattle.trace_report.proofs.Vocabulary.{refl, sym, ap, subst, arith, length-replicate, length-map, Litmus, chosen, core_of, has_ended}
use Rattle.trace_report.proofs.Vocabulary.{MemoryAccess, access_of, BusRun, Core, Choice, Table, Entry, tags_in, Configuration, AllStores}
use Rattle.trace_report.proofs.Vocabulary.{start-stores, LiveIn, live-after, live-start, Caches, is_awaited, used_between, no_counts}
use Rattle.trace_report.proofs.Vocabulary.{with_access, with_forward, with_write_back, with_flush, counts_at_core, flush_counted}
use Rattle.trace_report.proofs.Vocabulary.{with_use_counted, Counts, CacheUse, Unused, Forwarded, Through, Running, new_machine, attempt_on}
use Rattle.trace_report.proofs.Vocabulary.{machine_use, machine_after, length-counted, trace_step_of, steps_from, is_sender, tells_flush}
use Rattle.trace_report.proofs.Vocabulary.{one_if, steps_that, CoresExist, cases_Bool, ended-free, inl, inr, machine_effect, IsAmong}
use Rattle.trace_report.proofs.Vocabulary.{IsFlusherAmong, IsSenderAmong}
use Rattle.std.proofs.Common.{length-set}
use Rattle.snoop_bus.specs.Asks.{Awaited}
use Rattle.snoop_bus.specs.Bus.{empty_caches}
use Rattle.multiprocessor.proofs.CountsOnBus.{senders}
use Rattle.trace_report.proofs.AccessesTold.{of, kept, added, counts_after, end_of, summed, through-keeps}
use Rattle.trace_report.proofs.RunsTold.{run_of, going}
use Rattle.trace_report.proofs.Rooms.{room_of, used-rooms}
use Rattle.trace_report.proofs.InPlace.{flush_in}
use Rattle.trace_report.proofs.UsesOnBus.{UsesOn, choice-uses}
use Rattle.trace_report.proofs.Flushes.{flush_awaited, UpgradesQuietly, Turns, whole, asked, arrived, choice-turn}

-- ---- what a choice counts

sender-adds : (k : ℕ) (sender : Option Core) (cs : List Counts)
    → IsAmong (length cs) sender
    → (of (flush_counted sender cs) k).flushes ≡ (of cs k).flushes + one_if (is_sender k sender)
sender-adds k None cs among = omega arith
sender-adds k (Some core) cs among =
    added (λ (n : Counts). n.flushes) core.0 k with_flush cs true among (λ n. refl) ∙ ap (λ b. (of cs k).flushes + one_if b) (always (core.0 == k))
  where
    always : (b : Bool) → (b && true) ≡ b
    always true = refl
    always false = refl

counted-flush : (core k : ℕ) (how : CacheUse) (cs : List Counts)
    → IsFlusherAmong (length cs) how
    → (of (with_use_counted core how cs) k).flushes ≡ (of cs k).flushes + one_if (is_sender k (flush_in how))
counted-flush core k Unused cs among = omega arith
counted-flush core k Forwarded cs among = kept (λ (n : Counts). n.flushes) core k with_forward cs (λ n. refl) ∙ (omega arith)
counted-flush core k (uses.Asked request) cs among = omega arith
counted-flush core k (Through r) cs among =
    let change : Counts → Counts = λ n. with_write_back r.access.wrote_back (with_access r.access.kind n) in
    sender-adds k r.access.flushed (counts_at_core core change cs)
    (subst (λ size. IsAmong size r.access.flushed) (sym (length-set cs core (change (of cs core)))) among)
    ∙ ap (λ n. n + one_if (is_sender k r.access.flushed))
    (kept (λ (n : Counts). n.flushes) core k change cs (λ n. (through-keeps r.access.kind r.access.wrote_back n).1))

-- ---- the caches stay as many

used-size : (before after : Bool) (c : Caches) (core : ℕ) (what : MemoryAccess) (pending commits : List Entry)
    → length (used_between before after c core what pending commits).caches.contents ≡ length c.contents
used-size before after c core what pending commits =
    sym (length-map (used_between before after c core what pending commits).caches.contents room_of)
    ∙ (ap length (used-rooms c core before after what pending commits) ∙ length-map c.contents room_of)

-- ---- along the choices

-- nothing that was sent is awaited where no access is; and for an upgrade nothing was sent
pub record IsSound (m : Running) : Type 0 where
  pub live : LiveIn m.bus m.test m.depth m.state
  pub stores : AllStores m.state.flat
  pub size : length m.statistics.counts ≡ length m.statistics.caches.contents
  pub sender : IsSenderAmong (length m.statistics.caches.contents) m.statistics.caches.awaited
  pub quiet : UpgradesQuietly m.statistics.caches.awaited
  pub resting : is_awaited m.state.holder ≡ false → flush_awaited m.statistics.caches.awaited ≡ None

pub sound-first : (table : Table) (c : Configuration) (t : Litmus) → IsSound (new_machine table c t)
sound-first table c t = record {
  live = live-start c.bus t c.depth;
  stores = start-stores t;
  size =
      length-replicate (length t.programs) no_counts
      ∙ sym (length-map (empty_caches (length t.programs) c.shape) (map tags_in) ∙ length-replicate (length t.programs) _);
  sender = tt;
  quiet = tt;
  resting = λ h. refl;
}

-- what a choice has to do with the caches
abbrev pub UsesOf : Running → Choice → Type 0
UsesOf m c =
    UsesOn m.bus m.statistics.caches c (access_of m.test m.depth m.state.flat)
    (access_of m.test m.depth (machine_after m c).state.flat) m.state.holder (machine_after m c).state.holder
    (machine_use m c)

-- and its core's pending stores stay stores
pub uses-of : (m : Running) (c : Choice) → IsSound m → UsesOf m c × AllStores (machine_after m c).state.flat
uses-of m c s = choice-uses m.bus m.test m.depth m.state m.statistics.caches c s.live.holding s.stores

abbrev TurnsOn : Running → Choice → Type 0
TurnsOn m c =
    Turns (is_awaited m.state.holder) (is_awaited (machine_effect m c).holder) m.statistics.caches.awaited
    (machine_use m c).caches.awaited (trace_step_of m c).flushed (flush_in (machine_use m c).how)

turn : (m : Running) (c : Choice) → IsSound m → TurnsOn m c
unfolding trace_step_of
turn m c s =
    choice-turn m.statistics.caches c (access_of m.test m.depth m.state.flat) (access_of m.test m.depth (machine_after m c).state.flat)
    m.state.holder (machine_after m c).state.holder (machine_use m c) s.quiet s.resting m.bus (uses-of m c s).0

among-all : (m : Running) (c : Choice) → IsSound m
    → IsFlusherAmong (length m.statistics.caches.contents) (machine_use m c).how
    × IsSenderAmong (length m.statistics.caches.contents) (machine_use m c).caches.awaited
among-all m c s =
    senders (is_awaited m.state.holder) (is_awaited (machine_effect m c).holder) m.statistics.caches (chosen c)
    (access_of m.test m.depth m.state.flat c) (core_of m.state.flat (chosen c)).pending
    (machine_effect m c).effect.commits s.sender

-- whose copy a step tells as sent is one of the cores
pub told-among : (m : Running) (c : Choice) → IsSound m → IsAmong (length m.statistics.caches.contents) (trace_step_of m c).flushed
told-among m c s = by_turn (turn m c s)
  where
    size : ℕ
    size = length m.statistics.caches.contents

    of_use : (how : CacheUse) → IsFlusherAmong size how → IsAmong size (flush_in how)
    of_use (Through r) among = among
    of_use _ among = tt

    of_awaited : (w : Option Awaited) → IsSenderAmong size w → IsAmong size (flush_awaited w)
    of_awaited None among = tt
    of_awaited (Some x) among = among

    by_turn : TurnsOn m c → IsAmong size (trace_step_of m c).flushed
    by_turn (whole told after waits) = subst (IsAmong size) (sym told) (of_use (machine_use m c).how (among-all m c s).0)
    by_turn (asked told how waits next quiet) = subst (IsAmong size) (sym told) (of_awaited (machine_use m c).caches.awaited (among-all m c s).1)
    by_turn (arrived told how after) = subst (IsAmong size) (sym told) tt

pub sound-after : (m : Running) (c : Choice) → IsSound m → IsSound (machine_after m c)
sound-after m c s =
    let size : length (machine_use m c).caches.contents ≡ length m.statistics.caches.contents =
    used-size (is_awaited m.state.holder) (is_awaited (machine_effect m c).holder) m.statistics.caches (chosen c)
    (access_of m.test m.depth m.state.flat c) (core_of m.state.flat (chosen c)).pending
    (machine_effect m c).effect.commits in
    let told = after-turn (turn m c s) in
    record {
      live = live-after m.bus m.test m.depth m.state (attempt_on m c) s.live;
      stores = (uses-of m c s).1;
      size = length-counted (chosen c) (machine_use m c).how m.statistics.counts ∙ (s.size ∙ sym size);
      sender = subst (λ n. IsSenderAmong n (machine_use m c).caches.awaited) (sym size) (among-all m c s).1;
      quiet = told.0;
      resting = told.1;
    }
  where
    after-turn : TurnsOn m c
        → UpgradesQuietly (machine_use m c).caches.awaited
        × (is_awaited (machine_effect m c).holder ≡ false → flush_awaited (machine_use m c).caches.awaited ≡ None)
    after-turn (whole told after waits) = (subst UpgradesQuietly (sym after) s.quiet, λ h. ap flush_awaited after ∙ s.resting (sym waits ∙ h))
    after-turn (asked told how waits next quiet) = (quiet, λ h. absurd (let z : ⊥ = cc in z))
    after-turn (arrived told how after) = (subst UpgradesQuietly (sym after) tt, λ h. ap flush_awaited after)

-- of this core's copies: what is told and what was awaited is what is counted and what is awaited
balance : (k : ℕ) (m : Running) (c : Choice) → IsSound m
    → one_if (is_sender k (trace_step_of m c).flushed) + one_if (is_sender k (flush_awaited m.statistics.caches.awaited))
    ≡ one_if (is_sender k (flush_in (machine_use m c).how)) + one_if (is_sender k (flush_awaited (machine_use m c).caches.awaited))
balance k m c s = by_turn (turn m c s)
  where
    sent : Option Core → ℕ
    sent o = one_if (is_sender k o)

    by_turn : TurnsOn m c
        → sent (trace_step_of m c).flushed + sent (flush_awaited m.statistics.caches.awaited)
        ≡ sent (flush_in (machine_use m c).how) + sent (flush_awaited (machine_use m c).caches.awaited)
    by_turn (whole told after waits) =
        let x : sent (trace_step_of m c).flushed ≡ sent (flush_in (machine_use m c).how) = ap sent told in
        let y : sent (flush_awaited (machine_use m c).caches.awaited)
        ≡ sent (flush_awaited m.statistics.caches.awaited) =
        ap (λ w. sent (flush_awaited w)) after in
        omega arith
    by_turn (asked told how waits next quiet) =
        let x : sent (trace_step_of m c).flushed ≡ sent (flush_awaited (machine_use m c).caches.awaited) = ap sent told in
        let y : sent (flush_in (machine_use m c).how) ≡ 0 = ap sent how in
        let z : sent (flush_awaited m.statistics.caches.awaited) ≡ 0 = ap sent (s.resting waits) in
        omega arith
    by_turn (arrived told how after) =
        let x : sent (trace_step_of m c).flushed ≡ 0 = ap sent told in
        let y : sent (flush_in (machine_use m c).how) ≡ sent (flush_awaited m.statistics.caches.awaited) = ap sent how in
        let z : sent (flush_awaited (machine_use m c).caches.awaited) ≡ 0 = ap (λ w. sent (flush_awaited w)) after in
        omega arith

-- what is told and isn't counted yet
abbrev pub waiting_for : ℕ → Running → ℕ
waiting_for k m = one_if (is_sender k (flush_awaited m.statistics.caches.awaited))

-- once the test has ended nothing is
none-waits : (m : Running) (choices : List Choice) (k : ℕ) → IsSound m → (run_of m choices).ended ≡ true → waiting_for k (end_of m choices) ≡ 0
none-waits m [] k s over =
    ap (λ o. one_if (is_sender k o)) (s.resting (ap is_awaited (ended-free m.bus m.test m.depth m.state.flat m.state.holder s.live over)))
none-waits m (c ∷ cs) k s over = elim (cases_Bool (has_ended m.test m.state.flat)) [
  | inl now ↦ rw now (ap (λ o. one_if (is_sender k o)) (s.resting (ap is_awaited (ended-free m.bus m.test m.depth m.state.flat m.state.holder s.live now))))
  | inr now ↦ rw now (none-waits (machine_after m c) cs k (sound-after m c s) (sym (ap (λ (r : BusRun). r.run.ended) (going m c cs now)) ∙ over))
]

pub flushes-told : (m : Running) (choices : List Choice) (k : ℕ) → IsSound m → CoresExist (length m.statistics.counts) choices → (run_of m choices).ended ≡ true
    → (of (counts_after m choices) k).flushes ≡ (of m.statistics.counts k).flushes + waiting_for k m + steps_that (tells_flush k) (steps_from m choices)
flushes-told m choices k s there over =
    let all = summed IsSound (λ (n : Counts). n.flushes) (waiting_for k) (tells_flush k) k sound-after
    (λ m c s h. (
    let same = balance k m c s in
    let one =
    counted-flush (chosen c) k (machine_use m c).how m.statistics.counts
    (subst (λ n. IsFlusherAmong n (machine_use m c).how) (sym s.size) (among-all m c s).0) in
    omega arith)) m choices s there in
    let none = none-waits m choices k s over in
    omega arith
