-- What is counted of a run is the number of steps of its trace that say so.
use Rattle.std.proofs.Common.{◌≡◌, ◌+◌, ℕ, Bool, true, false, if◌then◌else◌, List, Option, None, Some, refl, ap, ◌∙◌, arith}
use Rattle.basic_laws.specs.Types.{Choice}
use Rattle.protocol_tables.specs.Tables.{Table, table_of}
use Rattle.protocol_tables.specs.declared.requests.Request.{Request}
use Rattle.protocol_tables.specs.declared.requests.Request.TheVariants.{GetM, GetS}
use Rattle.snoop_bus.specs.declared.access.AccessKind.{AccessKind}
use Rattle.snoop_bus.specs.declared.access.AccessKind.TheVariants.{Hit, Miss, Upgrade}
use Rattle.snoop_bus.specs.declared.access.BusRequest.{BusRequest}
use Rattle.multiprocessor.specs.Statistics.{with_access, with_write_back}
use Rattle.multiprocessor.specs.declared.accesses.CacheUse.{CacheUse}
use Rattle.multiprocessor.specs.declared.accesses.CacheUse.TheVariants.{Asked, Forwarded, Through, Unused}
use Rattle.multiprocessor.specs.declared.counts.Counts.{Counts}
use Rattle.machine_core.specs.Running.{Running, machine_use, new_machine}
use Rattle.trace_report.specs.Shown.{ShownStep}
use Rattle.trace_report.specs.Steps.{access_kind_in, is_forwarded, sent_by, sent_with, steps_from, trace_step_of}
use Rattle.cache_counts.specs.AddingUp.{sum_of_uses}
use Rattle.cache_counts.specs.Traffic.{requests_to_read, requests_to_write, with_requested}
use Rattle.cache_counts.specs.Uses.{uses_from, uses_of}
use Rattle.cache_counts.specs.declared.traffic.Traffic.{Traffic}
use Rattle.cache_counts.proofs.UseSums.{CountsEach, MovesEach, counted-by-uses, moved-in-all}
use Rattle.counted_steps.specs.StepSums.{CountsAreSumsOfSteps, has_request, reads_line, steps_of_core, was_hit, was_miss, was_upgrade, writes_line}
use Rattle.counted_steps.proofs.Along.{along}

abbrev pub one : Bool → ℕ
one b = if b then 1 else 0

-- ---- a step says what its use of the caches was

-- a test of steps goes by the choice's use
abbrev Tells : (ShownStep → Bool) → (CacheUse → ℕ) → Type 0
Tells test of_use = (m : Running) (choice : Choice) → one (test (trace_step_of m choice)) ≡ of_use (machine_use m choice).how

steps-told : (test : ShownStep → Bool) (of_use : CacheUse → ℕ) → Tells test of_use → (k : ℕ) (m : Running) (choices : List Choice)
    → sum_of_uses of_use k (uses_from m choices) ≡ steps_of_core test k (steps_from m choices)
steps-told test of_use tells k m choices = along (λ m. Unit {0}) (λ m c kept. tt) (λ s. one (test s)) of_use k (λ m c kept own. tells m c) m choices tt

-- ---- each number

abbrev by_access : (Option AccessKind → Bool) → CacheUse → ℕ
by_access test how = one (test (access_kind_in how))

access-told : (test : Option AccessKind → Bool) → Tells (λ s. test s.access) (by_access test)
unfolding trace_step_of
access-told test m choice = refl

forward-told : Tells (λ s. s.forwarded) (λ how. one (is_forwarded how))
unfolding trace_step_of
forward-told m choice = refl

abbrev by_request : (Request → Bool) → CacheUse → ℕ
by_request test how = one (has_request test (sent_by how).request)

request-told : (test : Request → Bool) → Tells (λ s. has_request test s.request) (by_request test)
unfolding trace_step_of
request-told test m choice = refl

each-hit : CountsEach (λ c. c.hits) (by_access was_hit)
each-hit = record {
  unused = refl;
  asked = λ q. refl;
  forwarded = λ c. omega arith;
  through = λ r c. by_report r.access.wrote_back r.access.kind c;
  flush = λ c. refl;
  none = refl;
}
  where
    by_report : (b : Bool) (kind : AccessKind) (c : Counts) → (with_write_back b (with_access kind c)).hits ≡ c.hits + one (was_hit (Some kind))
    by_report true Hit c = omega arith
    by_report true Miss c = omega arith
    by_report true Upgrade c = omega arith
    by_report false Hit c = omega arith
    by_report false Miss c = omega arith
    by_report false Upgrade c = omega arith

each-miss : CountsEach (λ c. c.misses) (by_access was_miss)
each-miss = record {
  unused = refl;
  asked = λ q. refl;
  forwarded = λ c. omega arith;
  through = λ r c. by_report r.access.wrote_back r.access.kind c;
  flush = λ c. refl;
  none = refl;
}
  where
    by_report : (b : Bool) (kind : AccessKind) (c : Counts) → (with_write_back b (with_access kind c)).misses ≡ c.misses + one (was_miss (Some kind))
    by_report true Hit c = omega arith
    by_report true Miss c = omega arith
    by_report true Upgrade c = omega arith
    by_report false Hit c = omega arith
    by_report false Miss c = omega arith
    by_report false Upgrade c = omega arith

each-upgrade : CountsEach (λ c. c.upgrades) (by_access was_upgrade)
each-upgrade = record {
  unused = refl;
  asked = λ q. refl;
  forwarded = λ c. omega arith;
  through = λ r c. by_report r.access.wrote_back r.access.kind c;
  flush = λ c. refl;
  none = refl;
}
  where
    by_report : (b : Bool) (kind : AccessKind) (c : Counts) → (with_write_back b (with_access kind c)).upgrades ≡ c.upgrades + one (was_upgrade (Some kind))
    by_report true Hit c = omega arith
    by_report true Miss c = omega arith
    by_report true Upgrade c = omega arith
    by_report false Hit c = omega arith
    by_report false Miss c = omega arith
    by_report false Upgrade c = omega arith

each-forward : CountsEach (λ c. c.forwards) (λ how. one (is_forwarded how))
each-forward = record {
  unused = refl;
  asked = λ q. refl;
  forwarded = λ c. refl;
  through = λ r c. by_report r.access.wrote_back r.access.kind c;
  flush = λ c. refl;
  none = refl;
}
  where
    by_report : (b : Bool) (kind : AccessKind) (c : Counts) → (with_write_back b (with_access kind c)).forwards ≡ c.forwards + 0
    by_report true Hit c = omega arith
    by_report true Miss c = omega arith
    by_report true Upgrade c = omega arith
    by_report false Hit c = omega arith
    by_report false Miss c = omega arith
    by_report false Upgrade c = omega arith

read-once : (r : Request) → requests_to_read r ≡ one (reads_line r)
read-once GetS = refl
read-once GetM = refl

write-once : (r : Request) → requests_to_write r ≡ one (writes_line r)
write-once GetS = refl
write-once GetM = refl

add-same : (a b c : ℕ) → b ≡ c → a + b ≡ a + c
add-same a b c h = ap (λ (n : ℕ). a + n) h

request-read : (table : Table) (k : ℕ) (o : Option BusRequest) (x : Traffic)
    → (with_requested table k o x).get_s ≡ x.get_s + one (has_request reads_line (sent_with o).request)
request-read table k None x = omega arith
request-read table k (Some q) x = add-same x.get_s _ _ (read-once q.request)

each-read : (table : Table) (k : ℕ) → MovesEach table k (λ x. x.get_s) (by_request reads_line)
each-read table k Unused x = omega arith
each-read table k Forwarded x = omega arith
each-read table k (Asked q) x = request-read table k q x
each-read table k (Through r) x = request-read table k r.request x

request-write : (table : Table) (k : ℕ) (o : Option BusRequest) (x : Traffic)
    → (with_requested table k o x).get_m ≡ x.get_m + one (has_request writes_line (sent_with o).request)
request-write table k None x = omega arith
request-write table k (Some q) x = add-same x.get_m _ _ (write-once q.request)

each-write : (table : Table) (k : ℕ) → MovesEach table k (λ x. x.get_m) (by_request writes_line)
each-write table k Unused x = omega arith
each-write table k Forwarded x = omega arith
each-write table k (Asked q) x = request-write table k q x
each-write table k (Through r) x = request-write table k r.request x

pub sums-of-steps : CountsAreSumsOfSteps
sums-of-steps t kind c choices k l =
    let table : Table = table_of kind in
    let m : Running = new_machine table c t in
    record {
      hits =
          counted-by-uses (λ c. c.hits) (by_access was_hit) each-hit table c t choices k l
          ∙ steps-told (λ s. was_hit s.access) (by_access was_hit) (access-told was_hit) k m choices;
      misses =
          counted-by-uses (λ c. c.misses) (by_access was_miss) each-miss table c t choices k l
          ∙ steps-told (λ s. was_miss s.access) (by_access was_miss) (access-told was_miss) k m choices;
      upgrades = counted-by-uses (λ c. c.upgrades) (by_access was_upgrade) each-upgrade table c t choices k l
          ∙ steps-told (λ s. was_upgrade s.access) (by_access was_upgrade) (access-told was_upgrade) k m choices;
      forwards = counted-by-uses (λ c. c.forwards) (λ how. one (is_forwarded how)) each-forward table c t choices k l
          ∙ steps-told (λ s. s.forwarded) (λ how. one (is_forwarded how)) forward-told k m choices;
      get_s = moved-in-all table k (λ x. x.get_s) (by_request reads_line) (each-read table k) refl (uses_of table c t choices)
          ∙ steps-told (λ s. has_request reads_line s.request) (by_request reads_line) (request-told reads_line) k m choices;
      get_m = moved-in-all table k (λ x. x.get_m) (by_request writes_line) (each-write table k) refl (uses_of table c t choices)
          ∙ steps-told (λ s. has_request writes_line s.request) (by_request writes_line) (request-told writes_line) k m choices;
    }
