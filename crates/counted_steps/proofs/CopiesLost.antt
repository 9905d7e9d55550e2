-- The copies of others that a core's requests turn to I are the lines of other cores that its steps tell to go to I: the others see a
-- request at once, and no line of theirs changes otherwise.
use Rattle.std.proofs.Common.{◌≡◌, ◌<◌, ◌≤◌, ℕ, List, [], ◌∷◌, ◌++◌, length, Option, None, Some, refl, sym, ap, subst, ◌∙◌}
use Rattle.std.specs.Prelude.{slice_set}
use Rattle.tso_terms.specs.FlatMachine.{chosen}
use Rattle.tso_terms.specs.Limits.{most_cores}
use Rattle.tso_terms.specs.Litmus.{IsTest, Litmus}
use Rattle.basic_laws.specs.Types.{Choice}
use Rattle.protocol_tables.specs.Tables.{Table, table_of}
use Rattle.protocol_tables.specs.declared.kind.ProtocolKind.{ProtocolKind}
use Rattle.protocol_tables.specs.declared.requests.Request.{Request}
use Rattle.protocol_tables.specs.declared.requests.Request.TheVariants.{GetM, GetS}
use Rattle.protocol_tables.specs.declared.state.Snoop.{Snoop}
use Rattle.protocol_tables.specs.declared.state.State as protocol
use Rattle.protocol_tables.specs.declared.state.State.TheVariants.{I, S, E, O, M}
use Rattle.cache_set.specs.CacheTags.{TagSets, states_by_core}
use Rattle.cache_set.specs.Requests.{snoop_column}
use Rattle.snoop_bus.specs.Rows.{rows_of, table_of_rows}
use Rattle.snoop_bus.specs.declared.access.BusRequest.{BusRequest}
use Rattle.multiprocessor.specs.Configuration.{Configuration}
use Rattle.machine_core.specs.Running.{Running, machine_after, machine_use, new_machine, table_in}
use Rattle.trace_report.specs.StepLaws.{OthersSeeTheRequest, after_choices}
use Rattle.trace_report.specs.Steps.{trace_step_of, trace_under}
use Rattle.trace_report.proofs.Kept.{IsKept, kept-after, kept-first, rows-kept}
use Rattle.trace_report.proofs.OthersSee.{others-told}
use Rattle.trace_report.proofs.WriteBacksTold.{protocols-keep}
use Rattle.cache_counts.specs.Traffic.{copies_given_up, given_up, given_up_in, traffic_of}
use Rattle.cache_counts.specs.Uses.{uses_of}
use Rattle.cache_counts.proofs.UseSums.{moved-in-all}
use Rattle.counted_steps.specs.StepSums.{TrafficIsSumsOfSteps, lost_by_others, sum_of_steps}
use Rattle.counted_steps.proofs.Along.{along}
use Rattle.counted_steps.proofs.Awaiting.{AtRest, rest-kept}
use Rattle.counted_steps.proofs.Changes.{changes-lost, fallen}
use Rattle.counted_steps.proofs.Copies.{given_at, others-given}
use Rattle.counted_steps.proofs.LinesWritten.{lines-written}
use Rattle.counted_steps.proofs.OtherCores.{asked-fallen, none-fallen}
use Rattle.counted_steps.proofs.Requests.{TellsStates, each-given, given_by, given_in, request_made, states-told}
use Rattle.counted_steps.proofs.Sums.{add-both, of_others, others-none, others-same, sum-none, sum-same, sum_from}

-- ---- one step

module _ (m : Running) (c : Choice) (kept : IsKept m) (quiet : AtRest m) (others : OthersSeeTheRequest m c) (few : length m.test.programs ≤ most_cores) where
  abbrev now : Running
  now = machine_after m c

  abbrev contents : List TagSets
  contents = m.statistics.caches.contents

  size : length contents ≡ length m.test.programs
  size = sym kept.sound.size ∙ kept.cores

  unasked : request_made (machine_use m c).how ≡ None → lost_by_others (chosen c) (trace_step_of m c).changes ≡ 0
  unasked none =
      changes-lost m c
      ∙ sum-none (of_others (chosen c) (fallen m now)) 0 (length m.test.programs)
      (others-none (chosen c) (fallen m now) (λ core apart. none-fallen m c kept quiet others core apart none))

  asked : (q : BusRequest) → request_made (machine_use m c).how ≡ Some q → q.states ≡ states_by_core most_cores q.line contents
      → lost_by_others (chosen c) (trace_step_of m c).changes ≡ copies_given_up (table_in m) (chosen c) q
  asked q asks told =
      let column : protocol.State → Snoop = snoop_column (table_in m) q.request in
      let given : ℕ → ℕ = given_at column q.line contents in
      changes-lost m c
      ∙ (sum-same (of_others (chosen c) (fallen m now)) (of_others (chosen c) given)
      (others-same (chosen c) (fallen m now) given (λ core apart. asked-fallen m c kept quiet others core apart q asks))
      0 (length m.test.programs)
      ∙ (ap (sum_from (of_others (chosen c) given) 0) (sym size)
      ∙ (sym (others-given column q.line most_cores (chosen c) contents (subst (λ (n : ℕ). n ≤ most_cores) (sym size) few))
      ∙ ap (λ (states : List (Option protocol.State)). given_up_in column (slice_set states (chosen c) None)) (sym told))))

  pub step-lost : lost_by_others (chosen c) (trace_step_of m c).changes ≡ given_in (table_in m) (chosen c) (machine_use m c).how
  step-lost = by_request (request_made (machine_use m c).how) refl (states-told m c)
    where
      by_request : (o : Option BusRequest)
          → request_made (machine_use m c).how ≡ o
          → TellsStates contents o
          → lost_by_others (chosen c) (trace_step_of m c).changes ≡ given_by (table_in m) (chosen c) o
      by_request None q told = unasked q
      by_request (Some r) q told = asked r q told

-- ---- the protocol's table, by its rows

row-same : (table : Table) (request : Request) (copy : Option protocol.State)
    → given_up (snoop_column (table_of_rows (rows_of table)) request) copy ≡ given_up (snoop_column table request) copy
row-same table request None = refl
row-same table GetS (Some I) = refl
row-same table GetS (Some S) = refl
row-same table GetS (Some E) = refl
row-same table GetS (Some O) = refl
row-same table GetS (Some M) = refl
row-same table GetM (Some I) = refl
row-same table GetM (Some S) = refl
row-same table GetM (Some E) = refl
row-same table GetM (Some O) = refl
row-same table GetM (Some M) = refl

rows-same : (table : Table) (request : Request) (copies : List (Option protocol.State))
    → given_up_in (snoop_column (table_of_rows (rows_of table)) request) copies ≡ given_up_in (snoop_column table request) copies
rows-same table request [] = refl
rows-same table request (copy ∷ copies) = add-both _ _ _ _ (row-same table request copy) (rows-same table request copies)

given-same : (table : Table) (k : ℕ) (o : Option BusRequest) → given_by (table_of_rows (rows_of table)) k o ≡ given_by table k o
given-same table k None = refl
given-same table k (Some q) = rows-same table q.request (slice_set q.states k None)

-- ---- along a run

after-more : (m : Running) (done : List Choice) (c : Choice) → after_choices m (done ++ c ∷ []) ≡ machine_after (after_choices m done) c
after-more m [] c = refl
after-more m (d ∷ ds) c = after-more (machine_after m d) ds c

-- a machine that choices of a test lead to
record IsReached (table : Table) (config : Configuration) (t : Litmus) (m : Running) : Type 0 where
  done : List Choice
  there : m ≡ after_choices (new_machine table config t) done
  kept : IsKept m
  quiet : AtRest m
  rows : m.statistics.caches.rows ≡ rows_of table
  few : length m.test.programs ≤ most_cores

reached-after : (table : Table) (config : Configuration) (t : Litmus) (m : Running) (c : Choice)
    → IsReached table config t m
    → IsReached table config t (machine_after m c)
reached-after table config t m c r = record {
  done = r.done ++ c ∷ [];
  there = ap (λ (x : Running). machine_after x c) r.there ∙ sym (after-more (new_machine table config t) r.done c);
  kept = kept-after m c r.kept;
  quiet = rest-kept m c r.kept.sound r.quiet;
  rows = rows-kept m c ∙ r.rows;
  few = r.few;
}

step-told : (table : Table) (config : Configuration) (t : Litmus) (k : ℕ) (m : Running) (c : Choice) → IsReached table config t m → chosen c ≡ k
    → lost_by_others k (trace_step_of m c).changes ≡ given_in table k (machine_use m c).how
step-told table config t k m c r own =
    let others : OthersSeeTheRequest m c = subst (λ (x : Running). OthersSeeTheRequest x c) (sym r.there) (others-told table config t r.done c) in
    subst (λ (i : ℕ). lost_by_others i (trace_step_of m c).changes ≡ given_in table i (machine_use m c).how) own
    (step-lost m c r.kept r.quiet others r.few
    ∙ (ap (λ rows. given_by (table_of_rows rows) (chosen c) (request_made (machine_use m c).how)) r.rows
    ∙ given-same table (chosen c) (request_made (machine_use m c).how)))

copies-lost : (t : Litmus) (kind : ProtocolKind) (c : Configuration) (choices : List Choice) (core : ℕ) → IsTest t → 0 < c.shape.words
    → (traffic_of (table_of kind) core (uses_of (table_of kind) c t choices)).invalidations
    ≡ sum_of_steps (λ s. lost_by_others core s.changes) core (trace_under t kind c choices)
copies-lost t kind c choices k test words =
    let table : Table = table_of kind in
    let m : Running = new_machine table c t in
    moved-in-all table k (λ x. x.invalidations) (given_in table k) (each-given table k) refl (uses_of table c t choices)
    ∙ along (IsReached table c t) (reached-after table c t) (λ s. lost_by_others k s.changes) (given_in table k) k (step-told table c t k) m choices
    (record { done = []; there = refl; kept = kept-first table c t test words (protocols-keep kind); quiet = λ free. refl; rows = refl; few = test.cores })

-- ---- both

pub traffic-is-sums : TrafficIsSumsOfSteps
traffic-is-sums t kind c choices core test words has = record {
  invalidations = copies-lost t kind c choices core test words;
  to_memory = lines-written t kind c choices core test words has;
}
