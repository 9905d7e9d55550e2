-- The counts after a choice on either bus.
use Rattle.multiprocessor.proofs.Vocabulary.{◌≡◌, ◌≢◌, ◌≤◌, ◌<◌, ◌+◌, ◌*◌, ◌⊎◌, inl, inr, ℕ, Bool, true, false}
use Rattle.multiprocessor.proofs.Vocabulary.{if◌then◌else◌, List, [], ◌∷◌, length, slice_set, Option, Some, None, All, refl, sym, ap, ◌∙◌}
use Rattle.multiprocessor.proofs.Vocabulary.{subst, arith, sum_by, option_map, All-set, most_instructions, Litmus, CoreState, Effect}
use Rattle.multiprocessor.proofs.Vocabulary.{chosen, core_of, idle, MemoryAccess, Holder, Free, HeldBy, HeldBetween, BusEffect, acts}
use Rattle.multiprocessor.proofs.Vocabulary.{BusState, Entry, Choice, Committed, Table, table_of_rows, TagSets, flusher_from, Awaited}
use Rattle.multiprocessor.proofs.Vocabulary.{asking, asked_for, awaiting, completed, completed_in, flusher_of, Counts, CacheUse, Unused}
use Rattle.multiprocessor.proofs.Vocabulary.{Caches, Used, use_of, used_between, Statistics, with_use_counted, IsAtMost, HasIssuedItsStores}
use Rattle.multiprocessor.proofs.Vocabulary.{IsAmong, IsFlusherAmong, IsUncounted, IsSenderAmong, IsTallied, done_by, done_in, half_done}
use Rattle.multiprocessor.proofs.Vocabulary.{most_counted, suc, request_for, awaited_as, whole_in, sends_in, tags_at}
use Rattle.std.proofs.lemmas.List.Sums.{sum_by-set, sum_by-le}
use Rattle.protocol_tables.specs.declared.state.State as protocol
use Rattle.protocol_tables.specs.declared.state.Snoop.{Snoop}
use Rattle.cache_set.specs.Tags.{tag_of}
use Rattle.protocol_tables.specs.declared.requests.Request.{Request}
use Rattle.protocol_tables.specs.declared.requests.Request.TheVariants.{GetS, GetM}
use Rattle.protocol_tables.specs.declared.requests.Transient.{Transient}
use Rattle.protocol_tables.specs.declared.requests.Transient.TheVariants.{SmD}
use Rattle.multiprocessor.proofs.CountBounds.{Advances, IsAtMost-more, use-counted, length-counted}
use Rattle.multiprocessor.proofs.EachUse.{each-use, unused-uncounted}

-- the core whose copy is sent to memory is on the bus
flusher-among : (k : ℕ) (f : protocol.State → Snoop) (line : ℕ) (caches : List TagSets) → IsAmong (k + length caches) (flusher_from k f line caches)
flusher-among k f line [] = tt
flusher-among k f line (sets ∷ caches) =
    elim (sends_in f (tag_of (tags_at sets line) line)) as (λ b.
    IsAmong (k + length (sets ∷ caches)) (if b then Some (record { 0 = k }) else flusher_from (k + 1) f line caches)) [
      | true ↦ (let z : k < k + suc (length caches) = omega arith in z)
      | false ↦
          subst (λ n. IsAmong n (flusher_from (k + 1) f line caches))
          (let z : k + 1 + length caches ≡ k + suc (length caches) = omega arith in z)
          (flusher-among (k + 1) f line caches)
    ]

-- and so is who sent what is awaited
completed-among : (t : Table) (core line n : ℕ) (o : Option Awaited) (caches : List TagSets)
    → IsSenderAmong n o
    → IsAmong n (completed t core line o caches).report.access.flushed
completed-among t core line n None caches h = tt
completed-among t core line n (Some x) caches h = by_transient x.transient
  where
    by_transient : (tr : Transient) → IsAmong n (completed_in t core line tr x.state x.flushed caches).report.access.flushed
    by_transient SmD = tt
    by_transient _ = h

sender-among : (t : Table) (request : Request) (line : ℕ) (caches : List TagSets) → IsAmong (length caches) (flusher_of t request line caches)
sender-among t GetS line caches =
    subst (λ n. IsAmong n (flusher_from 0 t.on_get_s line caches))
    (let z : 0 + length caches ≡ length caches = omega arith in z) (flusher-among 0 t.on_get_s line caches)
sender-among t GetM line caches = tt

asked-among : (t : Table) (request : Request) (core line : ℕ) (caches : List TagSets)
    → IsSenderAmong (length caches) (asking t request core line caches).awaited
unfolding awaiting
asked-among t request core line caches =
    elim (asked_for request core line caches) as (λ o. IsSenderAmong (length caches) (option_map (awaiting t request line caches) o))
    [ None ↦ tt | Some tr ↦ sender-among t request line caches ]

whole-among : (t : Table) (write : Bool) (core line : ℕ) (caches : List TagSets) (copy next : Option protocol.State)
    → IsAmong (length caches) (whole_in t write core line caches copy next).report.access.flushed
unfolding awaiting
whole-among t write core line caches copy (Some state) = tt
whole-among t write core line caches copy None =
    completed-among t core line (length caches)
    (Some (awaiting t (request_for write) line caches (awaited_as write copy))) _
    (sender-among t (request_for write) line caches)

-- what a choice makes of that, and the core whose copy was sent
abbrev SendersAmong : ℕ → Used → Type 0
SendersAmong n u = IsFlusherAmong n u.how × IsSenderAmong n u.caches.awaited

pub senders : (before after : Bool) (c : Caches) (core : ℕ) (what : MemoryAccess) (pending commits : List Entry) → IsSenderAmong (length c.contents) c.awaited
    → SendersAmong (length c.contents) (used_between before after c core what pending commits)
senders before after c core what pending commits h =
    each-use (SendersAmong (length c.contents)) c (tt, h) (tt, h) (λ k loc write. (whole-among (table_of_rows c.rows) write k _ c.contents _ _, h)) core
    (λ loc write. (tt, asked-among (table_of_rows c.rows) (request_for write) core _ c.contents))
    (λ loc. (completed-among (table_of_rows c.rows) core _ (length c.contents) c.awaited c.contents h, tt)) before after what pending commits

-- a core after an effect on either bus: no fewer instructions have made their accesses, and one more where an access is counted; none is
-- unless the outcome says that something was committed
pub record AdvancesOn (s : CoreState) (holder : Holder) (f : BusEffect) (how : CacheUse) : Type 0 where
  pub issued : HasIssuedItsStores f.effect.after
  pub done : done_by s + half_done holder ≤ done_by f.effect.after + half_done f.holder
  pub more : IsUncounted how ⊎ (done_by s + half_done holder + 1 ≤ done_by f.effect.after + half_done f.holder)
  pub uncommitted : f.effect.outcome ≢ Committed → IsUncounted how

-- how many instructions all cores are done with
done-bound : (cores : List CoreState) → All HasIssuedItsStores cores → sum_by done_by cores ≤ length cores * most_instructions
done-bound cores all = sum_by-le done_by most_instructions cores (λ k d l. (let first = (all k d l).place in omega arith))

half-bound : (holder : Holder) → half_done holder ≤ 1
half-bound Free = omega arith
half-bound _ = omega arith

pub few-counted : (t : Litmus) (state : BusState) (s : Statistics)
    → length state.flat.cores ≡ length t.programs
    → IsTallied t state s
    → All (IsAtMost most_counted) s.counts
few-counted t state s size tallied =
    let bound = done-bound state.flat.cores tallied.issued in
    let half = half-bound state.holder in
    let cores = tallied.test.cores in
    let few : done_in state ≤ most_counted = omega arith in
    λ k d l. IsAtMost-more (done_in state) most_counted _ few (tallied.done k d l)

-- the counts after a choice
counts-after : (n m core : ℕ) (how : CacheUse) (cs : List Counts) → n ≤ m → IsUncounted how ⊎ (n + 1 ≤ m)
    → All (IsAtMost n) cs → All (IsAtMost m) (with_use_counted core how cs)
counts-after n m core how cs le (inl none) all =
    subst (λ u. All (IsAtMost m) u) (sym (none core cs)) (λ k d l. IsAtMost-more n m _ le (all k d l))
counts-after n m core how cs le (inr more) all =
    let next : All (IsAtMost (n + 1)) (with_use_counted core how cs) = use-counted n core how cs all in
    λ k d l. IsAtMost-more (n + 1) m _ more (next k d l)

pub tallied-after : (t : Litmus) (state next : BusState) (choice : Choice) (f : BusEffect) (s : Statistics) (u : Used)
    → length state.flat.cores ≡ length t.programs
    → length s.caches.contents ≡ length t.programs
    → chosen choice < length t.programs
    → IsTallied t state s
    → AdvancesOn (core_of state.flat (chosen choice)) state.holder f u.how
    → SendersAmong (length s.caches.contents) u
    → next.flat.cores ≡ slice_set state.flat.cores (chosen choice) f.effect.after → next.holder ≡ f.holder
    → IsTallied t next (record { caches = u.caches; counts = with_use_counted (chosen choice) u.how s.counts })
tallied-after t state next choice f s u cores contents h tallied go among after holder =
    let i = chosen choice in
    let c = core_of state.flat i in
    let here : i < length state.flat.cores = subst (λ n. i < n) (sym cores) h in
    let sums : sum_by done_by (slice_set state.flat.cores i f.effect.after) + done_by c
    ≡ sum_by done_by state.flat.cores + done_by f.effect.after =
    sum_by-set done_by state.flat.cores i f.effect.after idle here in
    let is : done_in next ≡ sum_by done_by (slice_set state.flat.cores i f.effect.after) + half_done f.holder = rw (after, holder) refl in
    let done = go.done in
    let le : done_in state ≤ done_in next = omega arith in
    record {
      test = tallied.test;
      cores = length-counted i u.how s.counts ∙ tallied.cores;
      issued = rw after (All-set HasIssuedItsStores state.flat.cores i f.effect.after go.issued tallied.issued);
      done = counts-after (done_in state) (done_in next) i u.how s.counts le
          (one-more (done_in state) (done_in next) (sum_by done_by state.flat.cores)
          (sum_by done_by (slice_set state.flat.cores i f.effect.after)) (done_by c) (done_by f.effect.after)
          (half_done state.holder) (half_done f.holder)
          u.how refl is sums go.more) tallied.done;
      sender = subst (λ n. IsSenderAmong n u.caches.awaited) contents among.1;
    }
  where
    one-more : (a b p q x y v w : ℕ) (how : CacheUse)
        → a ≡ p + v
        → b ≡ q + w
        → q + x ≡ p + y
        → IsUncounted how ⊎ (x + v + 1 ≤ y + w)
        → IsUncounted how ⊎ (a + 1 ≤ b)
    one-more a b p q x y v w how d e s (inl none) = inl none
    one-more a b p q x y v w how d e s (inr more) = inr (let z : a + 1 ≤ b = omega arith in z)

-- a choice that is made at once, whoever holds the bus
advances-whole : (s : CoreState) (holder : Holder) (f : Effect) (c : Caches) (pending : List Entry)
    → Advances s f
    → AdvancesOn s holder (acts f holder) (use_of c pending f.commits).how
advances-whole s holder f c pending go =
    let done = go.done in
    record {
      issued = go.issued;
      done = (let z : done_by s + half_done holder ≤ done_by f.after + half_done holder = omega arith in z);
      more = by_commits go.more;
      uncommitted = λ other. uncounted (go.uncommitted other);
    }
  where
    uncounted : f.commits ≡ [] → IsUncounted (use_of c pending f.commits).how
    uncounted none = unused-uncounted _ (ap (λ es. (use_of c pending es).how) none)

    by_commits : (f.commits ≡ []) ⊎ (done_by s + 1 ≤ done_by f.after)
        → IsUncounted (use_of c pending f.commits).how
        ⊎ (done_by s + half_done holder + 1 ≤ done_by f.after + half_done holder)
    by_commits (inl none) = inl (uncounted none)
    by_commits (inr more) = inr (omega arith)

pub advances-acts : (s : CoreState) (holder : Holder) (b : Bool) (f : Effect) (c : Caches) (core : ℕ)
    (what : MemoryAccess) (pending : List Entry)
    → Advances s f
    → AdvancesOn s holder (acts f holder) (used_between b b c core what pending f.commits).how
advances-acts s holder true f c core what pending go = advances-whole s holder f c pending go
advances-acts s holder false f c core what pending go = advances-whole s holder f c pending go

-- an access that is completed is counted once
pub advances-frees : (s : CoreState) (choice : Choice) (f : Effect) (how : CacheUse)
    → f.commits ≢ []
    → Advances s f
    → AdvancesOn s (HeldBy choice) (acts f Free) how
advances-frees s choice f how some go =
    let done = go.done in
    record {
      issued = go.issued;
      done = (let z : done_by s + 0 ≤ done_by f.after + 0 = omega arith in z);
      more = by_commits go.more;
      uncommitted = λ other. absurd (some (go.uncommitted other));
    }
  where
    by_commits : (f.commits ≡ []) ⊎ (done_by s + 1 ≤ done_by f.after) → IsUncounted how ⊎ (done_by s + 0 + 1 ≤ done_by f.after + 0)
    by_commits (inl none) = absurd (some none)
    by_commits (inr more) = inr (omega arith)

-- a locked instruction is counted at its load part, and not at its store part
pub advances-reads : (s : CoreState) (choice : Choice) (e : Entry) (f : BusEffect) (how : CacheUse)
    → HasIssuedItsStores s
    → f.effect.outcome ≡ Committed
    → f.effect.after ≡ s
    → f.holder ≡ HeldBetween e
    → AdvancesOn s (HeldBy choice) f how
advances-reads s choice e f how issued outcome after holder = record {
  issued = rw after issued;
  done = rw (after, holder) (let z : done_by s + 0 ≤ done_by s + 1 = omega arith in z);
  more = inr (rw (after, holder) (let z : done_by s + 0 + 1 ≤ done_by s + 1 = omega arith in z));
  uncommitted = λ other. absurd (other outcome);
}

pub advances-writes : (s : CoreState) (e : Entry) (f : Effect) (g : BusEffect) (how : CacheUse)
    → how ≡ Unused
    → f.commits ≢ []
    → Advances s f
    → g.effect.after ≡ f.after
    → g.holder ≡ Free
    → AdvancesOn s (HeldBetween e) g how
advances-writes s e f g how unused some go after holder = record {
  issued = rw after go.issued;
  done = rw (after, holder) (by_commits go.more);
  more = inl (unused-uncounted how unused);
  uncommitted = λ _. unused-uncounted how unused;
}
  where
    by_commits : (f.commits ≡ []) ⊎ (done_by s + 1 ≤ done_by f.after) → done_by s + 1 ≤ done_by f.after + 0
    by_commits (inl none) = absurd (some none)
    by_commits (inr more) = omega arith

-- a choice that asks or stalls
pub advances-rests : (s : CoreState) (holder : Holder) (f : BusEffect) (how : CacheUse)
    → HasIssuedItsStores s
    → f.effect.after ≡ s
    → half_done holder ≤ half_done f.holder
    → IsUncounted how
    → AdvancesOn s holder f how
advances-rests s holder f how issued after half uncounted = record {
  issued = rw after issued;
  done = rw after (let z : done_by s + half_done holder ≤ done_by s + half_done f.holder = omega arith in z);
  more = inl uncounted;
  uncommitted = λ _. uncounted;
}
