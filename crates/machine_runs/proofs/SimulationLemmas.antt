-- From a machine that was driven to the answer of a simulation.
use Rattle.machine_runs.proofs.Vocabulary.{◌≡◌, ◌<◌, ◌-◌, ◌+◌, ◌*◌, ℕ, zero, suc, Bool, true, false, List, [], ◌∷◌, length, All, slice_get}
use Rattle.machine_runs.proofs.Vocabulary.{slice_index_or, Option, Some, None, is_some, arith, ap, sym, ◌∙◌, refl, subst, Litmus}
use Rattle.machine_runs.proofs.Vocabulary.{KeepsAllOrder, Condition, truth_of, State, registers_in, Run, has_ended, Attempt, BusState}
use Rattle.machine_runs.proofs.Vocabulary.{choices_in, put_together, together, Atomic, Choice, Entry, End, EndOn}
use Rattle.machine_runs.proofs.Vocabulary.{Table, Counts, Configuration, Statistics, counts_of, Running, new_machine}
use Rattle.machine_runs.proofs.Vocabulary.{ShownRun, run_by, AnswersFitBy, Ending, Ended, Unfinished, shown_of, verdict, IsEndingOf}
use Rattle.machine_runs.proofs.Vocabulary.{IsCounted, HasAllOrder, HasEnded, drains, Drives}
use Rattle.std.specs.Option.{option_map}
use Rattle.tso_terms.specs.Standing.{StandsIn}
use Rattle.tso_terms.specs.Runs as flat
use Rattle.basic_laws.specs.Types.{Kind, R, W, F, LR, LW}
use Rattle.tso_laws.specs.Counting.{instructions, stores_of_all}
use Rattle.tso_laws.specs.Entries.{FitsTest}
use Rattle.tso_laws.specs.Rounds.{CanBeCutIntoRounds}
use Rattle.tso_laws.specs.BusLaws.{AtomicRunsAreFlatRuns}
use Rattle.tso_laws.specs.inner.BusLaws.{RunsOnEitherBusStopWhereTheyEnd}
use Rattle.order_builder.specs.PrintedOrder.{HasLocation, IsLocationFor}
use Rattle.machine_core.specs.inner.Running.{is_ended}
use Rattle.machine_runs.proofs.BusLemmas.{attempts_in, bus_run, choices-in, length-in, run-is, atomic-run}

-- what the laws of either bus say of runs
pub record RunLaws : Type 0 where
  pub atomic : AtomicRunsAreFlatRuns
  pub stops : RunsOnEitherBusStopWhereTheyEnd

-- a new machine that was driven through choices
abbrev pub IsDriven : Table → Configuration → Litmus → Running → Running → List Choice → ℕ → ℕ → Type 0
IsDriven table config t old m choices used stalled = (old ≡ new_machine table config t) × Drives old m choices used stalled

pub from-new : (table : Table) (config : Configuration) (t : Litmus) (old m : Running) (choices : List Choice)
    (used stalled : ℕ)
    → IsDriven table config t old m choices used stalled
    → Drives (new_machine table config t) m choices used stalled
from-new table config t old m choices used stalled driven = subst (λ (o : Running). Drives o m choices used stalled) driven.0 driven.1

-- whether the driven machine has ended is whether the run has
pub ended-as-driven : (table : Table) (config : Configuration) (t : Litmus) (old m : Running) (choices : List Choice) (used stalled : ℕ) (b : Bool) → RunLaws
    → IsDriven table config t old m choices used stalled → is_ended m ≡ b → (bus_run table config t choices).run.ended ≡ b
ended-as-driven table config t old m choices used stalled b laws driven e =
    let d = from-new table config t old m choices used stalled driven in
    let over : has_ended m.test m.state.flat ≡ b = (rw d.failed at e) in
    let left : (bus_run table config t choices).run.state ≡ m.state.flat = ap (λ (s : BusState). s.flat) (sym d.state) in
    (laws.stops.stops config.bus t config.depth (attempts_in table config t choices)).ended
    ∙ ap (λ (s : State). has_ended t s) left ∙ subst (λ (u : Litmus). has_ended u m.state.flat ≡ b) d.test over

-- the run that is answered
abbrev answered_run : Table → Configuration → Litmus → List Choice → Run
answered_run table config t choices = run_by config.bus table config t choices

ending-of : (table : Table) (config : Configuration) (t : Litmus) (choices : List Choice) (ending : Ending) → RunLaws
    → IsEndingOf t (together (bus_run table config t choices).run) ending → IsEndingOf t (answered_run table config t choices) ending
ending-of table config t choices ending laws is = subst (λ (r : Run). IsEndingOf t r ending) (sym (run-is table config t choices laws.atomic)) is

pub unfinished-is : (table : Table) (config : Configuration) (t : Litmus) (old m : Running) (choices : List Choice) (used stalled : ℕ) → RunLaws
    → IsDriven table config t old m choices used stalled → is_ended m ≡ false
    → IsEndingOf t (run_by config.bus table config t choices) (Unfinished used stalled)
unfinished-is table config t old m choices used stalled laws driven e =
    let d = from-new table config t old m choices used stalled driven in
    ending-of table config t choices (Unfinished used stalled) laws (
      ended-as-driven table config t old m choices used stalled false laws driven e,
      d.used,
      d.stalled,
    )

same-shown : (s u : ShownRun)
    → s.order ≡ u.order
    → s.registers ≡ u.registers
    → s.memory ≡ u.memory
    → s.counts ≡ u.counts
    → s.holds ≡ u.holds
    → s.used ≡ u.used
    → s.stalled ≡ u.stalled
    → s.unused ≡ u.unused
    → s ≡ u
same-shown s u a b c d e f g h =
    (λ i. record { order = a i; registers = b i; memory = c i; counts = d i; holds = e i; used = f i; stalled = g i; unused = h i })

-- what the machine leaves is what the run shows
pub ended-is : (table : Table) (config : Configuration) (t : Litmus) (old m : Running) (choices : List Choice) (used stalled : ℕ) (s : ShownRun) → RunLaws
    → IsDriven table config t old m choices used stalled → is_ended m ≡ true
    → s.order ≡ put_together m.commits → s.registers ≡ registers_in m.state.flat → s.memory ≡ m.state.flat.memory → s.holds ≡ verdict t s.registers s.memory
    → s.used ≡ used → s.stalled ≡ stalled → s.unused ≡ length choices - used
    → ((run_by config.bus table config t choices).ended ≡ true) × (s ≡ shown_of t s.counts (run_by config.bus table config t choices))
ended-is table config t old m choices used stalled s laws driven e order registers memory holds u st un =
    let d = from-new table config t old m choices used stalled driven in
    let r = together (bus_run table config t choices).run in
    let state : m.state.flat ≡ r.state = ap (λ (s : BusState). s.flat) d.state in
    let order_is : s.order ≡ r.commits = order ∙ ap put_together d.commits in
    let registers_are : s.registers ≡ registers_in r.state = registers ∙ ap registers_in state in
    let memory_is : s.memory ≡ r.state.memory = memory ∙ ap (λ (x : State). x.memory) state in
    let holds_is : s.holds ≡ verdict t (registers_in r.state) r.state.memory =
    holds ∙ ap (λ x. verdict t x s.memory) registers_are ∙ ap (λ x. verdict t (registers_in r.state) x) memory_is in
    let count : r.used + r.unused ≡ length choices =
    (laws.stops.stops config.bus t config.depth (attempts_in table config t choices)).count
    ∙ length-in table config t choices in
    let used_is : s.used ≡ r.used = u ∙ d.used in
    let stalled_is : s.stalled ≡ r.stalled = st ∙ d.stalled in
    let unused_is : s.unused ≡ r.unused = (let a = d.used in omega arith) in
    subst (λ (x : Run). (x.ended ≡ true) × (s ≡ shown_of t s.counts x)) (sym (run-is table config t choices laws.atomic)) (
      ended-as-driven table config t old m choices used stalled true laws driven e,
      same-shown s (shown_of t s.counts r) order_is registers_are memory_is refl holds_is used_is stalled_is unused_is,
    )

-- where the driven machine has ended, so has the run, with the machine's commits put together as its order
pub ended-order : (table : Table) (config : Configuration) (t : Litmus) (old m : Running) (choices : List Choice)
    (used stalled : ℕ) (order : List Entry)
    → RunLaws
    → IsDriven table config t old m choices used stalled → is_ended m ≡ true → order ≡ put_together m.commits
    → ((run_by config.bus table config t choices).ended ≡ true) × (order ≡ (run_by config.bus table config t choices).commits)
ended-order table config t old m choices used stalled order laws driven e same =
    let d = from-new table config t old m choices used stalled driven in
    subst (λ (x : Run). (x.ended ≡ true) × (order ≡ x.commits)) (sym (run-is table config t choices laws.atomic))
    (ended-as-driven table config t old m choices used stalled true laws driven e, same ∙ ap put_together d.commits)

-- the answers of the caches fit
pub answers-fit : (table : Table) (config : Configuration) (t : Litmus) (old m : Running) (choices : List Choice) (used stalled : ℕ)
    → IsDriven table config t old m choices used stalled → AnswersFitBy table config t choices
answers-fit table config t old m choices used stalled driven = (from-new table config t old m choices used stalled driven).answers

-- what the machine counted is what the run's choices come to
pub counts-are : (table : Table) (config : Configuration) (t : Litmus) (old m : Running) (choices : List Choice) (used stalled : ℕ) (counts : List Counts)
    → IsDriven table config t old m choices used stalled
    → counts ≡ m.statistics.counts
    → counts ≡ counts_of config.bus table config.shape t config.depth choices
counts-are table config t old m choices used stalled counts driven left =
    left ∙ ap (λ (s : Statistics). s.counts) (from-new table config t old m choices used stalled driven).statistics

located : (t : Litmus) (e : Entry) (k : Kind) → e.kind ≡ k → FitsTest t e → IsLocationFor t k e.loc.0
located t e F is f = tt
located t e R is f = f.location (λ q. let z : ⊥ = cc in z)
located t e W is f = f.location (λ q. let z : ⊥ = cc in z)
located t e LR is f = f.location (λ q. let z : ⊥ = cc in z)
located t e LW is f = f.location (λ q. let z : ⊥ = cc in z)

get-at : (xs : List Entry) (k : ℕ) (d : Entry) → k < length xs → slice_get xs k ≡ Some (slice_index_or xs k d)
get-at [] k d l = absurd (omega arith)
get-at (x ∷ xs) zero d l = refl
get-at (x ∷ xs) (suc k) d l = get-at xs k d (omega arith)

pub locations-known : (t : Litmus) (order : List Entry) → ((e : Entry) → StandsIn order e → FitsTest t e) → All (HasLocation t) order
locations-known t order f = λ k d l. located t (slice_index_or order k d) _ refl (f (slice_index_or order k d) (k, get-at order k d l))

pub is_some-verdict : (t : Litmus) (registers : List (List ℕ)) (memory : List ℕ) → is_some (verdict t registers memory) ≡ is_some t.condition
is_some-verdict t registers memory = is_some-option_map (λ c. truth_of registers memory c.claim) t.condition
  where
    is_some-option_map : (f : Condition → Bool) (c : Option Condition) → is_some (option_map f c) ≡ is_some c
    is_some-option_map f None = refl
    is_some-option_map f (Some c) = refl

-- ---- of all runs

-- by the depth
pub choices-counted : (t : Litmus) (depth : ℕ) (choices : List Choice)
    → ((t : Litmus) (depth : ℕ) (choices : List Choice)
    → 0 < depth
    → End t depth choices
    → (flat.run t depth choices).used
    ≡ (flat.run t depth choices).stalled + (instructions t.programs + stores_of_all t.programs))
    → ((t : Litmus) (choices : List Choice) → End t 0 choices → (flat.run t 0 choices).used ≡ (flat.run t 0 choices).stalled + instructions t.programs)
    → End t depth choices → (flat.run t depth choices).used ≡ (flat.run t depth choices).stalled + (instructions t.programs + drains t depth)
choices-counted t zero choices buffered unbuffered over = let count = unbuffered t choices over in omega arith
choices-counted t (suc n) choices buffered unbuffered over = buffered t (suc n) choices (omega arith) over

pub counted : (table : Table) (c : Configuration) (t : Litmus) (choices : List Choice) (e : Ending) → c.bus ≡ Atomic
    → ((flat.run t c.depth choices).ended ≡ true
    → (flat.run t c.depth choices).used
    ≡ (flat.run t c.depth choices).stalled + (instructions t.programs + drains t c.depth))
    → IsEndingOf t (run_by c.bus table c t choices) e → IsCounted t c.depth e
counted table c t choices e atomic law is = by_ending e (subst (λ (x : Run). IsEndingOf t x e) (atomic-run table c t choices atomic) is)
  where
    by_ending : (e : Ending) → IsEndingOf t (flat.run t c.depth choices) e → IsCounted t c.depth e
    by_ending (Ended run) is =
        let used = ap (λ s. s.used) is.1 in let stalled = ap (λ s. s.stalled) is.1 in let count = law is.0 in omega arith
    by_ending (Unfinished used stalled) is = tt

-- without buffers the order of an ended run keeps program order without exception
pub all-order : (t : Litmus) (x : Run) (e : Ending) → (x.ended ≡ true → KeepsAllOrder x.commits) → IsEndingOf t x e → HasAllOrder e
all-order t x (Ended run) law is = subst KeepsAllOrder (ap (λ (s : ShownRun). s.order) (sym is.1)) (law is.0)
all-order t x (Unfinished used stalled) law is = tt

ended-by : (t : Litmus) (x : Run) (e : Ending) → x.ended ≡ true → IsEndingOf t x e → HasEnded e
ended-by t x (Ended run) over is = tt
ended-by t x (Unfinished used stalled) over is =
    let bad : true ≡ false = sym over ∙ is.0 in cc

pub ended-on-atomic : (table : Table) (c : Configuration) (t : Litmus) (choices : List Choice) (e : Ending) → c.bus ≡ Atomic
    → (flat.run t c.depth choices).ended ≡ true → IsEndingOf t (run_by c.bus table c t choices) e → HasEnded e
ended-on-atomic table c t choices e atomic over is =
    ended-by t (run_by c.bus table c t choices) e (ap (λ (x : Run). x.ended) (atomic-run table c t choices atomic) ∙ over) is

pub ended-on-either : (table : Table) (c : Configuration) (t : Litmus) (choices : List Choice) (e : Ending) → AtomicRunsAreFlatRuns
    → ((attempts : List Attempt) → CanBeCutIntoRounds (length t.programs) (3 * instructions t.programs) (choices_in attempts) → EndOn c.bus t c.depth attempts)
    → CanBeCutIntoRounds (length t.programs) (3 * instructions t.programs) choices → IsEndingOf t (run_by c.bus table c t choices) e → HasEnded e
ended-on-either table c t choices e laws law cut is =
    let over : EndOn c.bus t c.depth (attempts_in table c t choices) =
    law (attempts_in table c t choices)
    (subst (CanBeCutIntoRounds (length t.programs) (3 * instructions t.programs)) (sym (choices-in table c t choices)) cut) in
    ended-by t (run_by c.bus table c t choices) e (ap (λ (x : Run). x.ended) (run-is table c t choices laws) ∙ over) is
