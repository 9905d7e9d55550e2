-- A machine that makes one run after the other: what it counts of each, and that it goes back to where it began.
use Rattle.sweep_runs.proofs.Vocabulary.{◌≡◌, ℕ, Bool, true, false, if◌then◌else◌, List, [], ◌∷◌, Option, refl, sym, ap, subst, ◌∙◌, Litmus}
use Rattle.sweep_runs.proofs.Vocabulary.{State, chosen, core_of, registers_in, Run, has_ended, BusState, effect_on, after_on, Bus, Atomic}
use Rattle.sweep_runs.proofs.Vocabulary.{Split, Choice, Table, ProtocolKind, Configuration, Running, new_machine, restarted, RunCounts}
use Rattle.sweep_runs.proofs.Vocabulary.{with_state_counted, with_verdict, with_unfinished, values_in, run_by, run_under, AnswersFit}
use Rattle.sweep_runs.proofs.Vocabulary.{AnswersFitBy, machine_run, AnswersFitOn, verdict, with_one_run, RunLaws, IsDriven, from-new}
use Rattle.sweep_runs.proofs.Vocabulary.{ended-as-driven}
use Rattle.tso_terms.specs.MemoryAccess.{access_of}
use Rattle.tso_terms.specs.Together.{together}
use Rattle.protocol_tables.specs.Tables.{table_of as table_of_kind}
use Rattle.snoop_bus.specs.Rows.{TableColumns, rows_of, table_of_rows}
use Rattle.cache_set.specs.Geometry.{Geometry}
use Rattle.multiprocessor.specs.Caches.{Caches, attempt_of, is_awaited}
use Rattle.multiprocessor.proofs.EachUse.{used-machine}
use Rattle.multiprocessor.specs.Statistics.{Statistics, statistics_from, statistics_after}
use Rattle.machine_core.specs.inner.Running.{is_ended}
use Rattle.machine_runs.specs.inner.Simulation.{Drives}
use Rattle.machine_runs.proofs.BusLemmas.{bus_run, run-is}

-- ---- no choice changes the protocol's table, nor the shape of the caches

record SameTable (old new : Caches) : Type 0 where
  rows : new.rows ≡ old.rows
  shape : new.shape ≡ old.shape

by-choices : (bus : Bus) (t : Litmus) (depth : ℕ) (state : BusState) (choices : List Choice) (s : Statistics)
    → SameTable s.caches (statistics_from bus t depth state choices s).caches
by-choices bus t depth state [] s = record { rows = refl; shape = refl }
by-choices bus t depth state (c ∷ cs) s =
    let next = statistics_after bus t depth state c s in
    let later = after_on bus t depth state (attempt_of t depth state.flat s.caches c) in
    let f = effect_on bus t depth state (attempt_of t depth state.flat s.caches c) in
    let one : SameTable s.caches next.caches =
    let same =
    used-machine (is_awaited state.holder) (is_awaited f.holder) s.caches (chosen c)
    (access_of t depth state.flat c) (core_of state.flat (chosen c)).pending f.effect.commits in
    record { rows = same.0; shape = same.1 } in
    by_end (has_ended t state.flat) next (statistics_from bus t depth later cs next) one (by-choices bus t depth later cs next)
  where
    by_end : (b : Bool) (next last : Statistics)
        → SameTable s.caches next.caches
        → SameTable next.caches last.caches
        → SameTable s.caches (if b then s else last).caches
    by_end true next last one rest = record { rows = refl; shape = refl }
    by_end false next last one rest = record { rows = rest.rows ∙ one.rows; shape = rest.shape ∙ one.shape }

-- a machine that was driven through choices goes back to where it would have gone back before
pub goes-back : (old m : Running) (choices : List Choice) (used stalled : ℕ) → Drives old m choices used stalled → restarted m ≡ restarted old
goes-back old m choices used stalled d =
    let same = by-choices old.bus old.test old.depth old.state choices old.statistics in
    let rows = ap (λ (s : Statistics). s.caches.rows) d.statistics ∙ same.rows in
    let shape = ap (λ (s : Statistics). s.caches.shape) d.statistics ∙ same.shape in
    made rows shape d.test d.bus d.depth
  where
    at : TableColumns → Geometry → Litmus → Bus → ℕ → Running
    at r g t b n = new_machine (table_of_rows r) (record { depth = n; shape = g; bus = b }) t

    made : m.statistics.caches.rows ≡ old.statistics.caches.rows
        → m.statistics.caches.shape ≡ old.statistics.caches.shape
        → m.test ≡ old.test
        → m.bus ≡ old.bus
        → m.depth ≡ old.depth
        → restarted m ≡ restarted old
    made p q t b n = ap (λ r. at r m.statistics.caches.shape m.test m.bus m.depth) p ∙ ap (λ g. at old.statistics.caches.rows g m.test m.bus m.depth) q
        ∙ ap (λ u. at old.statistics.caches.rows old.statistics.caches.shape u m.bus m.depth) t
        ∙ ap (λ x. at old.statistics.caches.rows old.statistics.caches.shape old.test x m.depth) b
        ∙ ap (λ k. at old.statistics.caches.rows old.statistics.caches.shape old.test old.bus k) n

-- so the next runs on it are those that they would have been before
pub as-before : (old new : Running) (t : Litmus) → new ≡ old → (old ≡ restarted old) × (old.test ≡ t)
    → ((new ≡ restarted new) × (new.test ≡ t))
    × ((choices : List Choice) → machine_run new choices ≡ machine_run old choices)
    × ((choices : List Choice) → AnswersFitOn new choices → AnswersFitOn old choices)
as-before old new t same ready = (
  subst (λ (m : Running). (m ≡ restarted m) × (m.test ≡ t)) (sym same) ready,
  λ choices. ap (λ (m : Running). machine_run m choices) same,
  λ choices fit. subst (λ (m : Running). AnswersFitOn m choices) same fit,
)

-- ---- the run that was made is counted

pub counted-unfinished : (t : Litmus) (r : Run) (c : RunCounts) → r.ended ≡ false → with_unfinished c ≡ with_one_run t r c
counted-unfinished t r c e = rw e refl

pub counted-ended : (table : Table) (config : Configuration) (t : Litmus) (old m : Running) (choices : List Choice)
    (used stalled : ℕ) (registers : List (List ℕ)) (memory : List ℕ) (holds : Option Bool) (c : RunCounts)
    → RunLaws → IsDriven table config t old m choices used stalled → is_ended m ≡ true
    → registers ≡ registers_in m.state.flat → memory ≡ m.state.flat.memory → holds ≡ verdict t registers memory
    → ((run_by config.bus table config t choices).ended ≡ true)
    × (with_verdict holds (with_state_counted (values_in t registers memory) c)
    ≡ with_one_run t (run_by config.bus table config t choices) c)
counted-ended table config t old m choices used stalled registers memory holds c laws driven over regs words truth =
    let d = from-new table config t old m choices used stalled driven in
    let r = together (bus_run table config t choices).run in
    let ended : r.ended ≡ true = ended-as-driven table config t old m choices used stalled true laws driven over in
    let state : m.state.flat ≡ r.state = ap (λ (s : BusState). s.flat) d.state in
    let registers_are : registers ≡ registers_in r.state = regs ∙ ap registers_in state in
    let memory_is : memory ≡ r.state.memory = words ∙ ap (λ (x : State). x.memory) state in
    let count : List (List ℕ) → List ℕ → RunCounts = λ g w. with_verdict (verdict t g w) (with_state_counted (values_in t g w) c) in
    let counted : with_verdict holds (with_state_counted (values_in t registers memory) c) ≡ count (registers_in r.state) r.state.memory =
    ap (λ h. with_verdict h (with_state_counted (values_in t registers memory) c)) truth
    ∙ ap (λ g. count g memory) registers_are
    ∙ ap (λ w. count (registers_in r.state) w) memory_is in
    subst (λ (x : Run).
    (x.ended ≡ true)
    × (with_verdict holds (with_state_counted (values_in t registers memory) c) ≡ with_one_run t x c))
    (sym (run-is table config t choices laws.atomic))
    (ended, counted ∙ (rw ended refl))

-- ---- the run on a new machine

by-rows : (b : Bus) (table : Table) (config : Configuration) (t : Litmus) (choices : List Choice)
    → run_by b (table_of_rows (rows_of table)) (record {
      depth = config.depth;
      shape = config.shape;
      bus = config.bus;
    }) t choices
    ≡ run_by b table config t choices
by-rows Atomic table config t choices = refl
by-rows Split table config t choices = refl

pub run-on-new : (table : Table) (config : Configuration) (t : Litmus) (choices : List Choice)
    → machine_run (new_machine table config t) choices ≡ run_by config.bus table config t choices
run-on-new table config t choices = by-rows config.bus table config t choices

fit-on-new : (table : Table) (config : Configuration) (t : Litmus) (choices : List Choice)
    → AnswersFitOn (new_machine table config t) choices
    → AnswersFitBy table config t choices
fit-on-new table config t choices fit = fit

-- a new machine is at the beginning of its test
pub beginning-new : (table : Table) (config : Configuration) (t : Litmus) (m : Running) → m ≡ new_machine table config t → m ≡ restarted m
beginning-new table config t m new = new ∙ sym (ap restarted new)

-- of a machine that is like a new one, on which a protocol's table stands
module _ (table : Table) (config : Configuration) (t : Litmus) (kind : ProtocolKind) (m : Running)
    (choices : List Choice) (new : m ≡ new_machine table config t) (is : table ≡ table_of_kind kind) where
  pub run-is-under : machine_run m choices ≡ run_under t kind config choices
  run-is-under =
      ap (λ (o : Running). machine_run o choices) new
      ∙ run-on-new table config t choices
      ∙ ap (λ (u : Table). run_by config.bus u config t choices) is

  pub fits-under : AnswersFitOn m choices → AnswersFit t kind config choices
  fits-under fit =
      subst (λ (u : Table). AnswersFitBy u config t choices) is
      (fit-on-new table config t choices (subst (λ (o : Running). AnswersFitOn o choices) new fit))
