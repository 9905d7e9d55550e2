-- The accesses that a trace tells, and those that are counted.
use Rattle.multiprocessor.specs.declared.accesses.CacheUse.TheVariants as uses
use Rattle.trace_report.proofs.Vocabulary.{◌≡◌, ◌∙◌, ℕ, zero, suc, ◌+◌, ◌<◌, ◌==◌, ◌&&◌, Bool, true, false, List, [], ◌∷◌, length}
use Rattle.trace_report.proofs.Vocabulary.{replicate, slice_index_or, Option, Some, None, refl, sym, ap, subst, arith, get_or_past}
use Rattle.trace_report.proofs.Vocabulary.{test-true, test-false, chosen, has_ended, CoresExist, Core, Choice, AccessKind, Hit, Upgrade}
use Rattle.trace_report.proofs.Vocabulary.{Miss, Running, machine_use, machine_after, Statistics, no_counts, with_access, with_forward}
use Rattle.trace_report.proofs.Vocabulary.{with_write_back, with_flush, counts_at_core, flush_counted, with_use_counted, statistics_from}
use Rattle.trace_report.proofs.Vocabulary.{Counts, CacheUse, Unused, Forwarded, Through, length-counted, ShownStep, is_forwarded}
use Rattle.trace_report.proofs.Vocabulary.{access_kind_in, trace_step_of, steps_from, count_of_accesses, is_kind, is_access_of_kind}
use Rattle.trace_report.proofs.Vocabulary.{tells_access, tells_forward, one_if, steps_that, if◌then◌else◌, cases_Bool, inl, inr}
use Rattle.machine_core.proofs.Changed.{slot}

-- the counts of one core among those of all
abbrev pub of : List Counts → ℕ → Counts
of cs k = slice_index_or cs k no_counts

-- ---- one core's counts changed

-- a change that leaves a count
pub kept : (what : Counts → ℕ) (core k : ℕ) (change : Counts → Counts) (cs : List Counts)
    → ((n : Counts) → what (change n) ≡ what n)
    → what (of (counts_at_core core change cs) k) ≡ what (of cs k)
kept what core k change cs same =
    slot (λ n. what n ≡ what (of cs k)) cs core k (change (of cs core)) no_counts (λ q l. same (of cs core) ∙ sym (ap (λ j. what (of cs j)) q))
    (λ q past. sym (ap what (ap (of cs) q ∙ get_or_past cs core no_counts past))) (λ n. refl)

-- a change that adds so many
pub added : (what : Counts → ℕ) (core k : ℕ) (change : Counts → Counts) (cs : List Counts) (b : Bool)
    → core < length cs
    → ((n : Counts) → what (change n) ≡ what n + one_if b)
    → what (of (counts_at_core core change cs) k) ≡ what (of cs k) + one_if ((core == k) && b)
added what core k change cs b h adds =
    slot (λ n. what n ≡ what (of cs k) + one_if ((core == k) && b)) cs core k (change (of cs core)) no_counts
    (λ q l. adds (of cs core) ∙ ap (λ j. what (of cs j) + one_if b) (sym q) ∙ sym (ap (λ t. what (of cs k) + one_if (t && b)) (test-true core k (sym q))))
    (λ q past. absurd (let z : ⊥ = omega (arith, h, past) in z))
    (λ n. plus-none (what (of cs k)) ∙ sym (ap (λ t. what (of cs k) + one_if (t && b)) (test-false core k (λ e. n (sym e)))))
  where
    plus-none : (n : ℕ) → n ≡ n + 0
    plus-none n = omega arith

-- ---- what a choice counts

access-adds : (kind k : AccessKind) (n : Counts) → count_of_accesses kind (with_access k n) ≡ count_of_accesses kind n + one_if (is_kind kind k)
access-adds Hit Hit n = refl
access-adds Miss Miss n = refl
access-adds Upgrade Upgrade n = refl
access-adds _ _ n = omega arith

written-kept : (kind : AccessKind) (b : Bool) (n : Counts) → count_of_accesses kind (with_write_back b n) ≡ count_of_accesses kind n
written-kept Hit true n = refl
written-kept _ true n = refl
written-kept kind false n = refl

flush-kept : (kind : AccessKind) (n : Counts) → count_of_accesses kind (with_flush n) ≡ count_of_accesses kind n
flush-kept Hit n = refl
flush-kept _ n = refl

forward-kept : (kind : AccessKind) (n : Counts) → count_of_accesses kind (with_forward n) ≡ count_of_accesses kind n
forward-kept Hit n = refl
forward-kept _ n = refl

pub flushed-kept : (what : Counts → ℕ) (k : ℕ) (f : Option Core) (cs : List Counts)
    → ((n : Counts) → what (with_flush n) ≡ what n)
    → what (of (flush_counted f cs) k) ≡ what (of cs k)
flushed-kept what k None cs same = refl
flushed-kept what k (Some core) cs same = kept what core.0 k with_flush cs same

pub none-told : (b : Bool) (n : ℕ) → n ≡ n + one_if (b && false)
none-told true n = omega arith
none-told false n = omega arith

pub counted-access : (kind : AccessKind) (core k : ℕ) (how : CacheUse) (cs : List Counts) → core < length cs
    → count_of_accesses kind (of (with_use_counted core how cs) k)
    ≡ count_of_accesses kind (of cs k) + one_if ((core == k) && is_access_of_kind kind (access_kind_in how))
counted-access kind core k Unused cs h = none-told (core == k) (count_of_accesses kind (of cs k))
counted-access kind core k Forwarded cs h =
    kept (count_of_accesses kind) core k with_forward cs (forward-kept kind)
    ∙ none-told (core == k) (count_of_accesses kind (of cs k))
counted-access kind core k (uses.Asked request) cs h = none-told (core == k) (count_of_accesses kind (of cs k))
counted-access kind core k (Through r) cs h =
    flushed-kept (count_of_accesses kind) k r.access.flushed
    (counts_at_core core (λ n. with_write_back r.access.wrote_back (with_access r.access.kind n)) cs) (flush-kept kind)
    ∙ added (count_of_accesses kind) core k (λ n. with_write_back r.access.wrote_back (with_access r.access.kind n)) cs (is_kind kind r.access.kind) h
    (λ n. written-kept kind r.access.wrote_back (with_access r.access.kind n) ∙ access-adds kind r.access.kind n)

-- an access is no load that a core's own stores answer, and sends no copy
pub through-keeps : (k : AccessKind) (b : Bool) (n : Counts)
    → ((with_write_back b (with_access k n)).forwards ≡ n.forwards)
    × ((with_write_back b (with_access k n)).flushes ≡ n.flushes)
through-keeps Hit true n = (refl, refl)
through-keeps _ true n = (refl, refl)
through-keeps Hit false n = (refl, refl)
through-keeps _ false n = (refl, refl)

pub counted-forward : (core k : ℕ) (how : CacheUse) (cs : List Counts) → core < length cs
    → (of (with_use_counted core how cs) k).forwards ≡ (of cs k).forwards + one_if ((core == k) && is_forwarded how)
counted-forward core k Unused cs h = none-told (core == k) (of cs k).forwards
counted-forward core k Forwarded cs h = added (λ (n : Counts). n.forwards) core k with_forward cs true h (λ n. refl)
counted-forward core k (uses.Asked request) cs h = none-told (core == k) (of cs k).forwards
counted-forward core k (Through r) cs h =
    flushed-kept (λ (n : Counts). n.forwards) k r.access.flushed
    (counts_at_core core (λ n. with_write_back r.access.wrote_back (with_access r.access.kind n)) cs) (λ n. refl)
    ∙ (kept (λ (n : Counts). n.forwards) core k
    (λ n. with_write_back r.access.wrote_back (with_access r.access.kind n)) cs
    (λ n. (through-keeps r.access.kind r.access.wrote_back n).0)
    ∙ none-told (core == k) (of cs k).forwards)

-- ---- along the choices

abbrev pub counted_of : Running → List Choice → Statistics
counted_of m choices = statistics_from m.bus m.test m.depth m.state choices m.statistics

pub counting : (m : Running) (c : Choice) (rest : List Choice)
    → has_ended m.test m.state.flat ≡ false
    → counted_of m (c ∷ rest) ≡ counted_of (machine_after m c) rest
counting m c rest live = rw live refl

pub stopped : (m : Running) (c : Choice) (rest : List Choice) → has_ended m.test m.state.flat ≡ true → counted_of m (c ∷ rest) ≡ m.statistics
stopped m c rest over = rw over refl

abbrev pub counts_after : Running → List Choice → List Counts
counts_after m choices = (counted_of m choices).counts

step-tells-access : (kind : AccessKind) (k : ℕ) (m : Running) (c : Choice)
    → tells_access kind k (trace_step_of m c)
    ≡ ((chosen c == k) && is_access_of_kind kind (access_kind_in (machine_use m c).how))
unfolding trace_step_of
step-tells-access kind k m c = refl

step-tells-forward : (k : ℕ) (m : Running) (c : Choice) → tells_forward k (trace_step_of m c) ≡ ((chosen c == k) && is_forwarded (machine_use m c).how)
unfolding trace_step_of
step-tells-forward k m c = refl

-- the machine once those of the choices were made that are used
abbrev pub end_of : Running → List Choice → Running
end_of m [] = m
end_of m (c ∷ cs) = if has_ended m.test m.state.flat then m else end_of (machine_after m c) cs

-- a count that each choice adds to where its step tells so, or where an earlier one told it and it waits
pub summed : (P : Running → Type 0) (what : Counts → ℕ) (waits : Running → ℕ) (test : ShownStep → Bool) (k : ℕ)
    → ((m : Running) (c : Choice) → P m → P (machine_after m c))
    → ((m : Running) (c : Choice) → P m → chosen c < length m.statistics.counts
    → what (of (machine_after m c).statistics.counts k) + waits (machine_after m c)
    ≡ what (of m.statistics.counts k) + waits m + one_if (test (trace_step_of m c)))
    → (m : Running) (choices : List Choice) → P m → CoresExist (length m.statistics.counts) choices
    → what (of (counts_after m choices) k) + waits (end_of m choices) ≡ what (of m.statistics.counts k) + waits m + steps_that test (steps_from m choices)
summed P what waits test k keeps adds m [] p cores = omega arith
summed P what waits test k keeps adds m (c ∷ cs) p cores =
    let rest =
    summed P what waits test k keeps adds (machine_after m c) cs (keeps m c p)
    (subst (λ n. CoresExist n cs) (sym (length-counted (chosen c) (machine_use m c).how m.statistics.counts)) cores.1) in
    elim (cases_Bool (has_ended m.test m.state.flat)) [
      | inl over ↦
          let steps : steps_that test (steps_from m (c ∷ cs)) ≡ 0 = rw over refl in
          let counts : what (of (counts_after m (c ∷ cs)) k) ≡ what (of m.statistics.counts k) =
          ap (λ (x : Statistics). what (of x.counts k)) (stopped m c cs over) in
          let last : waits (end_of m (c ∷ cs)) ≡ waits m = rw over refl in
          omega arith
      | inr live ↦
          let steps : steps_that test (steps_from m (c ∷ cs))
          ≡ one_if (test (trace_step_of m c)) + steps_that test (steps_from (machine_after m c) cs) =
          rw live refl in
          let counts : what (of (counts_after m (c ∷ cs)) k) ≡ what (of (counts_after (machine_after m c) cs) k) =
          ap (λ (x : Statistics). what (of x.counts k)) (counting m c cs live) in
          let last : waits (end_of m (c ∷ cs)) ≡ waits (end_of (machine_after m c) cs) = rw live refl in
          let one = adds m c p cores.0 in
          omega arith
    ]

pub no-counts : (n k : ℕ) → of (replicate n no_counts) k ≡ no_counts
no-counts zero k = refl
no-counts (suc n) zero = refl
no-counts (suc n) (suc k) = no-counts n k

pub none-of : (kind : AccessKind) → count_of_accesses kind no_counts ≡ 0
none-of Hit = refl
none-of _ = refl

pub accesses-told : (kind : AccessKind) (m : Running) (choices : List Choice) (k : ℕ) → CoresExist (length m.statistics.counts) choices
    → count_of_accesses kind (of (counts_after m choices) k) + 0
    ≡ count_of_accesses kind (of m.statistics.counts k) + 0
    + steps_that (tells_access kind k) (steps_from m choices)
accesses-told kind m choices k there =
    summed (λ m. Unit {0}) (count_of_accesses kind) (λ m. 0) (tells_access kind k) k (λ m c p. tt)
    (λ m c p h. (
    let told : one_if (tells_access kind k (trace_step_of m c))
    ≡ one_if ((chosen c == k) && is_access_of_kind kind (access_kind_in (machine_use m c).how)) =
    ap one_if (step-tells-access kind k m c) in
    let one = counted-access kind (chosen c) k (machine_use m c).how m.statistics.counts h in
    omega arith)) m choices tt there

pub forwards-told : (m : Running) (choices : List Choice) (k : ℕ) → CoresExist (length m.statistics.counts) choices
    → (of (counts_after m choices) k).forwards + 0 ≡ (of m.statistics.counts k).forwards + 0 + steps_that (tells_forward k) (steps_from m choices)
forwards-told m choices k there =
    summed (λ m. Unit {0}) (λ (n : Counts). n.forwards) (λ m. 0) (tells_forward k) k (λ m c p. tt)
    (λ m c p h. (
    let told : one_if (tells_forward k (trace_step_of m c))
    ≡ one_if ((chosen c == k) && is_forwarded (machine_use m c).how) =
    ap one_if (step-tells-forward k m c) in
    let one = counted-forward (chosen c) k (machine_use m c).how m.statistics.counts h in
    omega arith)) m choices tt there
