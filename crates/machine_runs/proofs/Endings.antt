-- What a driven machine is left with, as the answer of a simulation.
use Rattle.machine_runs.proofs.Vocabulary.{◌≡◌, ◌-◌, ℕ, List, length, is_some, sym, ap, subst, ◌∙◌, Litmus, IsTest, well-formed, IsWhole, Choice}
use Rattle.machine_runs.proofs.Vocabulary.{IsExecution, Table, Configuration, Running, shown_run, run_by, counts_by, AnswersFitBy}
use Rattle.machine_runs.proofs.Vocabulary.{IsEndingOf, FitsEnding, HasCounts, IsEndingLeftBy, Ending, Ended, Unfinished}
use Rattle.tso_laws.specs.inner.Laws.{WholeOrdersHaveEachEntryOnce}
use Rattle.machine_runs.specs.inner.Runs.{EndsBy}
use Rattle.machine_runs.proofs.CountLemmas.{counts-each}
use Rattle.machine_runs.proofs.SimulationLemmas.{RunLaws, IsDriven, unfinished-is, ended-is, ended-order, counts-are, locations-known, is_some-verdict}

-- what the laws say of runs and of their orders
pub record Laws : Type 0 where
  pub runs : RunLaws
  pub executions : (table : Table) (c : Configuration) (t : Litmus) (choices : List Choice)
      → IsTest t → AnswersFitBy table c t choices → EndsBy table c t choices → IsExecution t (run_by c.bus table c t choices)
  pub once : WholeOrdersHaveEachEntryOnce

-- a new machine was driven through choices, all of them or up to the end, and is left so
pub record IsLeftOf (table : Table) (config : Configuration) (t : Litmus) (old m : Running) (choices : List Choice)
    (used stalled unused : ℕ) (ending : Ending) : Type 0 where
  pub driven : IsDriven table config t old m choices used stalled
  pub unused_are : unused ≡ length choices - used
  pub left : IsEndingLeftBy t m used stalled unused ending

pub ending-is : (table : Table) (config : Configuration) (t : Litmus) (old m : Running) (choices : List Choice)
    (used stalled unused : ℕ) (ending : Ending)
    → Laws
    → IsLeftOf table config t old m choices used stalled unused ending → IsEndingOf t (run_by config.bus table config t choices) ending
ending-is table config t old m choices used stalled unused (Ended run) laws is =
    let l = is.left in
    ended-is table config t old m choices used stalled (shown_run run) laws.runs is.driven l.ended l.order l.registers
    l.memory l.holds l.used l.stalled (l.unused ∙ is.unused_are)
ending-is table config t old m choices used stalled unused (Unfinished u s) laws is =
    let here = unfinished-is table config t old m choices used stalled laws.runs is.driven is.left.0 in
    (here.0, is.left.1 ∙ here.1, is.left.2 ∙ here.2)

pub ending-fits : (table : Table) (config : Configuration) (t : Litmus) (old m : Running) (choices : List Choice)
    (used stalled unused : ℕ) (ending : Ending)
    → Laws
    → IsTest t → AnswersFitBy table config t choices → m.test ≡ t → IsLeftOf table config t old m choices used stalled unused ending → FitsEnding t ending
ending-fits table config t old m choices used stalled unused (Unfinished u s) laws valid fit same is = tt
ending-fits table config t old m choices used stalled unused (Ended run) laws valid fit same is =
    let l = is.left in
    let order = (shown_run run).order in
    let ended = ended-order table config t old m choices used stalled order laws.runs is.driven l.ended l.order in
    let execution : IsExecution t (run_by config.bus table config t choices) = laws.executions table config t choices valid fit ended.0 in
    let whole : IsWhole t order = subst (IsWhole t) (sym ended.1) execution.order.whole in
    record {
      locations = locations-known t order (λ e stands. laws.once.fits t order e (well-formed t valid) whole stands);
      registers = l.cores ∙ ap (λ (u : Litmus). length u.programs) same;
      memory = l.locations ∙ ap (λ (u : Litmus). length u.locations) same;
      counts =
          ap length (counts-are table config t old m choices used stalled (shown_run run).counts is.driven l.counts)
          ∙ counts-each config.bus table config.shape t config.depth choices;
      verdict = ap is_some l.holds ∙ is_some-verdict t (shown_run run).registers (shown_run run).memory;
    }

pub ending-counts : (table : Table) (config : Configuration) (t : Litmus) (old m : Running) (choices : List Choice) (used stalled unused : ℕ) (ending : Ending)
    → IsLeftOf table config t old m choices used stalled unused ending → HasCounts (counts_by table config t choices) ending
ending-counts table config t old m choices used stalled unused (Unfinished u s) is = tt
ending-counts table config t old m choices used stalled unused (Ended run) is =
    counts-are table config t old m choices used stalled (shown_run run).counts is.driven is.left.counts
