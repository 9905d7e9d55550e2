-- The lines that are written to memory for a core are its steps that tell a copy as sent there, and those that tell a write-back.
use Rattle.std.proofs.Common.{◌≡◌, ◌+◌, ◌<◌, ◌==◌, ◌&&◌, ℕ, Bool, true, false, if◌then◌else◌, List, [], ◌∷◌, length, Option, None, Some}
use Rattle.std.proofs.Common.{refl, sym, ap, subst, ◌∙◌, arith}
use Rattle.std.specs.Prelude.{is_some}
use Rattle.basic_laws.proofs.Basics.{test-true}
use Rattle.tso_terms.specs.FlatMachine.{chosen}
use Rattle.tso_terms.specs.Litmus.{IsTest, Litmus}
use Rattle.tso_terms.specs.declared.instruction.Core.{Core}
use Rattle.basic_laws.specs.Types.{Choice}
use Rattle.protocol_tables.specs.Tables.{Table, table_of}
use Rattle.protocol_tables.specs.declared.kind.ProtocolKind.{ProtocolKind}
use Rattle.snoop_bus.specs.declared.access.BusRequest.{BusRequest}
use Rattle.multiprocessor.specs.Configuration.{Configuration}
use Rattle.multiprocessor.specs.declared.accesses.CacheUse.{CacheUse}
use Rattle.multiprocessor.specs.declared.accesses.CacheUse.TheVariants.{Asked, Forwarded, Through, Unused}
use Rattle.machine_core.specs.Running.{Running, machine_after, machine_use, new_machine}
use Rattle.trace_report.specs.Steps.{sent_by, sent_with, trace_step_of, trace_under}
use Rattle.trace_report.proofs.GaveWay.{step-told}
use Rattle.trace_report.proofs.InPlace.{wrote_in}
use Rattle.trace_report.proofs.Kept.{IsKept, kept-after, kept-first}
use Rattle.trace_report.proofs.WriteBacksTold.{protocols-keep}
use Rattle.cache_counts.specs.AddingUp.{sum_of_uses}
use Rattle.cache_counts.specs.Traffic.{lines_written_back, sent, traffic_of, with_requested}
use Rattle.cache_counts.specs.Uses.{uses_of}
use Rattle.cache_counts.specs.declared.noting.CoreUse.{CoreUse}
use Rattle.cache_counts.specs.declared.traffic.Traffic.{Traffic}
use Rattle.cache_counts.proofs.UseSums.{MovesEach, moved-in-all}
use Rattle.counted_steps.specs.StepSums.{steps_of_core}
use Rattle.counted_steps.proofs.Along.{along, its-choice}
use Rattle.counted_steps.proofs.StepsCounted.{one}
use Rattle.counted_steps.proofs.Sums.{add-both, no-more}

-- ---- what a choice writes to memory

abbrev by_sending : CacheUse → ℕ
by_sending how = one (is_some (sent_by how).flushed)

abbrev by_write_back : CacheUse → ℕ
by_write_back how = one (wrote_in how)

abbrev by_writing : CacheUse → ℕ
by_writing how = by_sending how + by_write_back how

sent-once : (o : Option Core) → sent o ≡ one (is_some o)
sent-once None = refl
sent-once (Some core) = refl

written-once : (b : Bool) → lines_written_back b ≡ one b
written-once true = refl
written-once false = refl

after-both : (x a b s w : ℕ) → a ≡ s → b ≡ w → (x + a) + b ≡ x + (s + w)
after-both x a b s w p q = omega (arith, p, q)

sent-alone : (x a s : ℕ) → a ≡ s → x + a ≡ x + (s + 0)
sent-alone x a s p = omega (arith, p)

written-alone : (x b w : ℕ) → b ≡ w → x + b ≡ x + (0 + w)
written-alone x b w p = omega (arith, p)

asked-written : (table : Table) (k : ℕ) (o : Option BusRequest) (x : Traffic)
    → (with_requested table k o x).to_memory ≡ x.to_memory + (one (is_some (sent_with o).flushed) + 0)
asked-written table k None x = no-more x.to_memory
asked-written table k (Some q) x = sent-alone x.to_memory (sent q.flushed) (one (is_some q.flushed)) (sent-once q.flushed)

each-written : (table : Table) (k : ℕ) → MovesEach table k (λ x. x.to_memory) by_writing
each-written table k Unused x = no-more x.to_memory
each-written table k Forwarded x = no-more x.to_memory
each-written table k (Asked q) x = asked-written table k q x
each-written table k (Through r) x = by_request r.request r.access.wrote_back
  where
    by_request : (o : Option BusRequest) (b : Bool)
        → (with_requested table k o x).to_memory + lines_written_back b
        ≡ x.to_memory + (one (is_some (sent_with o).flushed) + one b)
    by_request None b = written-alone x.to_memory (lines_written_back b) (one b) (written-once b)
    by_request (Some q) b =
        after-both x.to_memory (sent q.flushed) (lines_written_back b) (one (is_some q.flushed)) (one b) (sent-once q.flushed) (written-once b)

-- ---- two sums are one

both-own : (b : Bool) (x y s t : ℕ) → (if b then x + y else 0) + (s + t) ≡ ((if b then x else 0) + s) + ((if b then y else 0) + t)
both-own true x y s t = omega arith
both-own false x y s t = omega arith

sums-add : (f g : CacheUse → ℕ) (k : ℕ) (us : List CoreUse) → sum_of_uses (λ how. f how + g how) k us ≡ sum_of_uses f k us + sum_of_uses g k us
sums-add f g k [] = refl
sums-add f g k (u ∷ us) =
    ap (λ (n : ℕ). (if u.core.0 == k then f u.how + g u.how else 0) + n) (sums-add f g k us)
    ∙ both-own (u.core.0 == k) (f u.how) (g u.how) (sum_of_uses f k us) (sum_of_uses g k us)

-- ---- what a step tells

sending-told : (m : Running) (c : Choice) → one (is_some (trace_step_of m c).flushed) ≡ by_sending (machine_use m c).how
unfolding trace_step_of
sending-told m c = refl

-- a machine of a test that has the core
record HasCore (k : ℕ) (m : Running) : Type 0 where
  kept : IsKept m
  has : k < length m.test.programs

core-kept : (k : ℕ) (m : Running) (c : Choice) → HasCore k m → HasCore k (machine_after m c)
core-kept k m c h = record { kept = kept-after m c h.kept; has = h.has }

both-true : (a b x y : Bool) → a ≡ true → b ≡ true → (a && x) ≡ (b && y) → x ≡ y
both-true a b x y p q same = ap (λ (t : Bool). t && x) (sym p) ∙ (same ∙ ap (λ (t : Bool). t && y) q)

writing-told : (k : ℕ) (m : Running) (c : Choice)
    → HasCore k m
    → chosen c ≡ k
    → one (is_some (trace_step_of m c).wrote_back) ≡ by_write_back (machine_use m c).how
writing-told k m c h own =
    let there : k < length m.statistics.counts = subst (λ (n : ℕ). k < n) (sym h.kept.cores) h.has in
    let told = step-told k m c h.kept (subst (λ (i : ℕ). i < length m.statistics.counts) (sym own) there) in
    ap one (both-true (chosen (trace_step_of m c).choice == k) (chosen c == k) (is_some (trace_step_of m c).wrote_back) (wrote_in (machine_use m c).how)
    (test-true (chosen (trace_step_of m c).choice) k (ap chosen (its-choice m c) ∙ own)) (test-true (chosen c) k own) told)

-- ---- of a whole run

pub lines-written : (t : Litmus) (kind : ProtocolKind) (c : Configuration) (choices : List Choice) (core : ℕ)
    → IsTest t
    → 0 < c.shape.words
    → core < length t.programs
    → (traffic_of (table_of kind) core (uses_of (table_of kind) c t choices)).to_memory
    ≡ steps_of_core (λ s. is_some s.flushed) core (trace_under t kind c choices) + steps_of_core (λ s. is_some s.wrote_back) core (trace_under t kind c choices)
lines-written t kind c choices k test words has =
    let table : Table = table_of kind in
    let m : Running = new_machine table c t in
    moved-in-all table k (λ x. x.to_memory) by_writing (each-written table k) refl (uses_of table c t choices)
    ∙ (sums-add by_sending by_write_back k (uses_of table c t choices)
    ∙ add-both _ _ _ _
    (along (λ m. Unit {0}) (λ m c kept. tt) (λ s. one (is_some s.flushed)) by_sending k (λ m c kept own. sending-told m c) m choices tt)
    (along (HasCore k) (core-kept k) (λ s. one (is_some s.wrote_back)) by_write_back k (writing-told k) m choices
    (record { kept = kept-first table c t test words (protocols-keep kind); has = has })))
