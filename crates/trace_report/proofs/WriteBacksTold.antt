-- The write-backs that a trace tells are those that are counted; and all that it tells of the accesses.
use Rattle.multiprocessor.specs.declared.accesses.CacheUse.TheVariants as uses
use Rattle.trace_report.proofs.Vocabulary.{◌≡◌, ◌≢◌, ◌∙◌, ℕ, ◌+◌, ◌<◌, ◌==◌, ◌&&◌, Bool, true, false, List, length, Some, refl, sym, ap}
use Rattle.trace_report.proofs.Vocabulary.{subst, arith, length-replicate, chosen, CoresExist, Choice, filled_by_sharing, written_in_place}
use Rattle.trace_report.proofs.Vocabulary.{I, AccessKind, Hit, Running, new_machine, machine_use, no_counts, with_access, with_forward}
use Rattle.trace_report.proofs.Vocabulary.{with_write_back, counts_at_core, with_use_counted, Counts, CacheUse, Unused, Forwarded, Through}
use Rattle.trace_report.proofs.Vocabulary.{trace_step_of, steps_from, count_of_accesses, is_sender, tells_write_back, one_if, steps_that}
use Rattle.trace_report.proofs.Vocabulary.{ProtocolsKeepNoCopyInI, AccessesAreTold}
use Rattle.protocol_tables.specs.declared.kind.ProtocolKind.TheVariants.{Mesi, Moesi}
use Rattle.protocol_tables.specs.declared.state.State.{State}
use Rattle.trace_report.proofs.AccessesTold.{of, kept, added, flushed-kept, none-told, counts_after, summed, no-counts, none-of, accesses-told, forwards-told}
use Rattle.trace_report.proofs.Flushes.{flush_awaited}
use Rattle.trace_report.proofs.FlushesTold.{sound-first, flushes-told}
use Rattle.trace_report.proofs.InPlace.{wrote_in}
use Rattle.trace_report.proofs.GaveWay.{step-told}
use Rattle.trace_report.proofs.Kept.{IsKept, kept-first, kept-after}

adds : (wrote_back : Bool) (kind : AccessKind) (n : Counts) → (with_write_back wrote_back (with_access kind n)).write_backs ≡ n.write_backs + one_if wrote_back
adds true Hit n = refl
adds true _ n = refl
adds false Hit n = omega arith
adds false _ n = omega arith

counted-write-back : (core k : ℕ) (how : CacheUse) (cs : List Counts) → core < length cs
    → (of (with_use_counted core how cs) k).write_backs ≡ (of cs k).write_backs + one_if ((core == k) && wrote_in how)
counted-write-back core k Unused cs h = none-told (core == k) (of cs k).write_backs
counted-write-back core k Forwarded cs h = kept (λ (n : Counts). n.write_backs) core k with_forward cs (λ n. refl) ∙ none-told (core == k) (of cs k).write_backs
counted-write-back core k (uses.Asked request) cs h = none-told (core == k) (of cs k).write_backs
counted-write-back core k (Through r) cs h =
    flushed-kept (λ (n : Counts). n.write_backs) k r.access.flushed
    (counts_at_core core (λ n. with_write_back r.access.wrote_back (with_access r.access.kind n)) cs) (λ n. refl)
    ∙ added (λ (n : Counts). n.write_backs) core k
    (λ n. with_write_back r.access.wrote_back (with_access r.access.kind n)) cs r.access.wrote_back h
    (adds r.access.wrote_back r.access.kind)

write-backs-counted : (m : Running) (choices : List Choice) (k : ℕ) → IsKept m → CoresExist (length m.statistics.counts) choices
    → (of (counts_after m choices) k).write_backs + 0 ≡ (of m.statistics.counts k).write_backs + 0 + steps_that (tells_write_back k) (steps_from m choices)
write-backs-counted m choices k kept there =
    summed IsKept (λ (n : Counts). n.write_backs) (λ m. 0) (tells_write_back k) k kept-after
    (λ m c kept h. (
    let told : one_if (tells_write_back k (trace_step_of m c))
    ≡ one_if ((chosen c == k) && wrote_in (machine_use m c).how) =
    ap one_if (step-told k m c kept h) in
    let one = counted-write-back (chosen c) k (machine_use m c).how m.statistics.counts h in
    omega arith)) m choices kept there

-- ---- all of it

pub all-told : AccessesAreTold
all-told table c t choices k cores =
    let m = new_machine table c t in
    let there : CoresExist (length m.statistics.counts) choices =
    subst (λ n. CoresExist n choices) (sym (length-replicate (length t.programs) no_counts)) cores in
    let none : of m.statistics.counts k ≡ no_counts = no-counts (length t.programs) k in
    let unwritten : (of m.statistics.counts k).write_backs ≡ 0 = ap (λ (n : Counts). n.write_backs) none in
    record {
      accesses = λ kind.
          let all = accesses-told kind m choices k there in
          let first : count_of_accesses kind (of m.statistics.counts k) ≡ 0 = ap (count_of_accesses kind) none ∙ none-of kind in
          omega arith;
      forwards =
          let all = forwards-told m choices k there in
          let first : (of m.statistics.counts k).forwards ≡ 0 = ap (λ (n : Counts). n.forwards) none in
          omega arith;
      write_backs = λ test words keeps. let all = write-backs-counted m choices k (kept-first table c t test words keeps) there in omega arith;
      flushes = λ ended.
          let all = flushes-told m choices k (sound-first table c t) there ended in
          let first : (of m.statistics.counts k).flushes ≡ 0 = ap (λ (n : Counts). n.flushes) none in
          let nothing : one_if (is_sender k (flush_awaited m.statistics.caches.awaited)) ≡ 0 = refl in
          omega arith;
    }

-- ---- the protocols

write-valid : (s : State) → written_in_place s ≢ Some I
write-valid I q = let z : ⊥ = cc in z
write-valid _ q = let z : ⊥ = cc in z

company-valid : (shared : Bool) → filled_by_sharing shared ≢ I
company-valid true q = let z : ⊥ = cc in z
company-valid false q = let z : ⊥ = cc in z

pub protocols-keep : ProtocolsKeepNoCopyInI
protocols-keep Mesi = record { filled = company-valid; written = write-valid }
protocols-keep Moesi = record { filled = company-valid; written = write-valid }
protocols-keep _ = record { filled = λ shared q. (let z : ⊥ = cc in z); written = write-valid }
