-- The headline holds of each answer.
use Rattle.tso_cli.proofs.Vocabulary.{◌≡◌, ◌<◌, ◌^◌, ℕ, Bool, List, ◌++◌, length, true, false, Option, Some, None, IfSome, subst, refl}
use Rattle.tso_cli.proofs.Vocabulary.{arith, Litmus, IsTest, IsWellFormed, IsWhole, StandsIn, KeepsAllOrder, Bus, Atomic, Choice, Entry, FitsTest}
use Rattle.tso_cli.proofs.Vocabulary.{IsExecution, IsDecidedAsChoices, IsOrderFor, SpellsOrder, Table, table_of, ProtocolKind}
use Rattle.tso_cli.proofs.Vocabulary.{Configuration, IsConfigurationWithinLimits, head, report, ShownRun, IsAnswerTo, IsInputAnswer}
use Rattle.tso_cli.proofs.Vocabulary.{IsAnswer, too_large, answered, run_text, IsRunAnswer, ran, IsWithinLimits, parts_of, Plan}
use Rattle.tso_cli.proofs.Vocabulary.{PrintsExecution, PrintsEachRun, HeadlineOfRuns, ending_text, traced_in, IsTooLong, IsTraceAnswer}
use Rattle.tso_cli.proofs.Vocabulary.{too_long, traced, PrintsTraceIn, PrintsEachTrace, HeadlineOfTraces, PrintsSweep, HeadlineOfSweeps}
use Rattle.tso_cli.proofs.Vocabulary.{HeadlineOf, InputHeadline, Headline, run_by, run_under, AnswersFitBy, AnswersFit, counts_under}
use Rattle.tso_cli.proofs.Vocabulary.{unfinished_run_line, report_in, unfinished_in, shown_of, Settings, instructions_of, Status}
use Rattle.tso_cli.proofs.Vocabulary.{AreReadOneWay}
use Rattle.tso_laws.specs.Words.{HoldsWords}
use Rattle.cache_set.specs.Geometry.{IsShapeWithinLimits as IsShape}
use Rattle.tso_cli.specs.Answers.{refused}
use Rattle.tso_cli.specs.CommandAnswers.{refused}
use Rattle.tso_cli.specs.Trace.{refused}
use Rattle.command_line.specs.declared.settings.Settings.TheVariants as settings
use Rattle.tso_cli.proofs.CheckLemmas.{check-means, run-spells}
use Rattle.tso_cli.proofs.OneAnswer.{short_rest}
use Rattle.tso_cli.proofs.OutcomesLemmas.{Searches, outcomes-mean}
use Rattle.tso_cli.proofs.WhyLemmas.{Refuting, reasons-mean}
use Rattle.tso_cli.proofs.SweepLemmas.{sweep-means}
use Rattle.tso_cli.proofs.CountsLemmas.{counts-mean}
use Rattle.tso_cli.proofs.WitnessLemmas.{Reaching, witness-means}
use Rattle.tso_cli.proofs.TraceLengths.{never-both}

-- the order spells itself in what is written
abbrev Spells : Litmus → ProtocolKind → Configuration → Bool → List Choice → List ℕ → Type 0
Spells t kind c json choices out = json ≡ false → SpellsOrder t out (run_under t kind c choices).commits

prints : (t : Litmus) (kind : ProtocolKind) (c : Configuration) (json : Bool) (choices : List Choice) (out : List ℕ)
    → IsExecution t (run_under t kind c choices)
    → (c.depth ≡ 0 → KeepsAllOrder (run_under t kind c choices).commits)
    → out ≡ report_in json t kind c (shown_of t (counts_under t kind c choices) (run_under t kind c choices))
    → Spells t kind c json choices out
    → PrintsExecution t kind c json (run_under t kind c choices) out
prints t kind c json choices out e all printed spelled = record {
  shown = shown_of t (counts_under t kind c choices) (run_under t kind c choices);
  printed = printed;
  execution = e.order;
  unbuffered = all;
  registers = e.registers;
  memory = e.memory;
  condition = refl;
  committed = refl;
  spelled = spelled;
}

-- what `run` writes of choices
abbrev written_of : Litmus → ProtocolKind → Configuration → Bool → List Choice → List ℕ
written_of t kind c json choices = run_text t kind c json (counts_under t kind c choices) (run_under t kind c choices)

-- the choices end the test
abbrev HasEnded : Litmus → ProtocolKind → Configuration → List Choice → Type 0
HasEnded t kind c choices = (run_under t kind c choices).ended ≡ true

prints-one : (t : Litmus) (kind : ProtocolKind) (c : Configuration) (json : Bool) (choices : List Choice) (out : List ℕ)
    → out ≡ written_of t kind c json choices
    → (HasEnded t kind c choices → IsExecution t (run_under t kind c choices))
    → (c.depth ≡ 0 → HasEnded t kind c choices → KeepsAllOrder (run_under t kind c choices).commits)
    → (HasEnded t kind c choices → Spells t kind c json choices out)
    → HasEnded t kind c choices
    → PrintsExecution t kind c json (run_under t kind c choices) out
prints-one t kind c json choices out text law all spelled ended =
    prints t kind c json choices out (law ended) (λ none. all none ended) (rw ended at text) (spelled ended)

-- the choices don't end the test
abbrev HasNotEnded : Litmus → ProtocolKind → Configuration → List Choice → Type 0
HasNotEnded t kind c choices = (run_under t kind c choices).ended ≡ false

prints-none : (t : Litmus) (kind : ProtocolKind) (c : Configuration) (json : Bool) (choices : List Choice)
    (out : List ℕ)
    → out ≡ written_of t kind c json choices
    → HasNotEnded t kind c choices → out ≡ unfinished_in json (run_under t kind c choices).used (run_under t kind c choices).stalled
prints-none t kind c json choices out text unended = rw unended at text

run-means : (t : Litmus) (kind : ProtocolKind) (c : Configuration) (json : Bool) (text out : List ℕ) (status : Status)
    → IsDecidedAsChoices (length t.programs) text
    → ((choices : List Choice) → AnswersFit t kind c choices → HasEnded t kind c choices → IsExecution t (run_under t kind c choices))
    → ((choices : List Choice) → c.depth ≡ 0 → AnswersFit t kind c choices → HasEnded t kind c choices → KeepsAllOrder (run_under t kind c choices).commits)
    → ((choices : List Choice) (out : List ℕ)
    → AnswersFit t kind c choices
    → out ≡ written_of t kind c json choices
    → HasEnded t kind c choices
    → Spells t kind c json choices out)
    → IsRunAnswer t kind c json text out status → PrintsEachRun t kind c json (λ choices. run_under t kind c choices) text out
run-means t kind c json text _ _ decided law all spells (refused fault h) = record {
  every_list = λ choices spelled. absurd (decided.never_both choices fault spelled h);
  every_other = λ none. (fault, h, refl);
}
run-means t kind c json text _ _ decided law all spells (ran made spelled fit) = record {
  every_list = λ choices read.
      let out : List ℕ = written_of t kind c json made in
      let is : made ≡ choices = decided.one_list made choices spelled read in
      record {
        ended = subst (λ cs. HasEnded t kind c cs → PrintsExecution t kind c json (run_under t kind c cs) out) is
            (prints-one t kind c json made out refl (law made fit) (λ none. all made none fit) (spells made out fit refl));
        unended = subst (λ cs. HasNotEnded t kind c cs → out ≡ unfinished_in json (run_under t kind c cs).used (run_under t kind c cs).stalled) is
            (prints-none t kind c json made out refl);
      };
  every_other = λ none. absurd (none made spelled);
}

-- ---- of `trace`

-- what `trace` writes of choices, without the trace
abbrev untraced_of : Litmus → ProtocolKind → Configuration → List Choice → List ℕ
untraced_of t kind c choices = head t kind c ++ ending_text t (counts_under t kind c choices) (run_under t kind c choices)

-- where the choices end the test that is what `run` writes
is-written : (t : Litmus) (kind : ProtocolKind) (c : Configuration) (choices : List Choice) → HasEnded t kind c choices
    → untraced_of t kind c choices ≡ written_of t kind c false choices
is-written t kind c choices ended = rw ended refl

is-unfinished : (t : Litmus) (kind : ProtocolKind) (c : Configuration) (choices : List Choice) → HasNotEnded t kind c choices
    → ending_text t (counts_under t kind c choices) (run_under t kind c choices)
    ≡ unfinished_run_line (run_under t kind c choices).used (run_under t kind c choices).stalled
is-unfinished t kind c choices unended = rw unended refl

-- what is printed of choices is so, plain or as JSON
prints-trace : (json : Bool) (t : Litmus) (kind : ProtocolKind) (c : Configuration) (choices : List Choice)
    → (HasEnded t kind c choices → IsExecution t (run_under t kind c choices))
    → (c.depth ≡ 0 → HasEnded t kind c choices → KeepsAllOrder (run_under t kind c choices).commits)
    → ((out : List ℕ) → out ≡ written_of t kind c json choices → HasEnded t kind c choices → Spells t kind c json choices out)
    → PrintsTraceIn json t kind c choices (run_under t kind c choices) (traced_in json t kind c choices)
unfolding prints
prints-trace false t kind c choices law all spells =
    let out : List ℕ = untraced_of t kind c choices in
    record {
      rest = ending_text t (counts_under t kind c choices) (run_under t kind c choices);
      printed = refl;
      ended = λ ended.
          prints-one t kind c false choices out (is-written t kind c choices ended) law all (λ e. spells out (is-written t kind c choices e) e) ended;
      unended = is-unfinished t kind c choices;
    }
prints-trace true t kind c choices law all spells =
    let out : List ℕ = report_in true t kind c (shown_of t (counts_under t kind c choices) (run_under t kind c choices)) in
    record {
      ended = λ ended. record {
        object = out;
        execution = prints t kind c true choices out (law ended) (λ none. all none ended) refl (spells out (rw ended refl) ended);
        printed = rw ended refl;
      };
      unended = λ unended. rw unended refl;
    }

trace-means : (t : Litmus) (kind : ProtocolKind) (c : Configuration) (json : Bool) (text out : List ℕ) (status : Status)
    → IsDecidedAsChoices (length t.programs) text
    → ((choices : List Choice) → AnswersFit t kind c choices → HasEnded t kind c choices → IsExecution t (run_under t kind c choices))
    → ((choices : List Choice) → c.depth ≡ 0 → AnswersFit t kind c choices → HasEnded t kind c choices → KeepsAllOrder (run_under t kind c choices).commits)
    → ((choices : List Choice) (out : List ℕ)
    → AnswersFit t kind c choices
    → out ≡ written_of t kind c json choices
    → HasEnded t kind c choices
    → Spells t kind c json choices out)
    → IsTraceAnswer t kind c json text out status → PrintsEachTrace t kind c json (λ choices. run_under t kind c choices) text out
trace-means t kind c json text _ _ decided law all spells (refused fault h) = record {
  every_list = λ choices spelled short. absurd (decided.never_both choices fault spelled h);
  too_long = λ choices spelled long. absurd (decided.never_both choices fault spelled h);
  every_other = λ none. (fault, h, refl);
}
trace-means t kind c json text _ _ decided law all spells (too_long made word spelled long is) = record {
  every_list = λ choices read short. absurd (never-both json (run_under t kind c choices) short
      (subst (λ cs. IsTooLong json (run_under t kind c cs)) (decided.one_list made choices spelled read) long));
  too_long = λ choices read longer. (word, is, refl);
  every_other = λ none. absurd (none made spelled);
}
trace-means t kind c json text _ _ decided law all spells (traced made spelled fit short) = record {
  every_list = λ choices read less.
      subst (λ cs. PrintsTraceIn json t kind c cs (run_under t kind c cs) (traced_in json t kind c made)) (decided.one_list made choices spelled read)
      (prints-trace json t kind c made (law made fit) (λ none. all made none fit) (λ out. spells made out fit));
  too_long = λ choices read long. absurd (never-both json (run_under t kind c made) short
      (subst (λ cs. IsTooLong json (run_under t kind c cs)) (decided.one_list choices made read spelled) long));
  every_other = λ none. absurd (none made spelled);
}

-- what is said of the runs on either bus is said of each bus apart

runs-by-bus : (t : Litmus) (kind : ProtocolKind) (c : Configuration) (json : Bool) (text out : List ℕ)
    → PrintsEachRun t kind c json (λ choices. run_under t kind c choices) text out → HeadlineOfRuns t kind c json text out
runs-by-bus t kind c json text out prints = record {
  atomic = λ is. subst (λ (b : Bus). PrintsEachRun t kind c json (λ choices. run_by b (table_of kind) c t choices) text out) is prints;
  split = λ is. subst (λ (b : Bus). PrintsEachRun t kind c json (λ choices. run_by b (table_of kind) c t choices) text out) is prints;
}

traces-by-bus : (t : Litmus) (kind : ProtocolKind) (c : Configuration) (json : Bool) (text out : List ℕ)
    → PrintsEachTrace t kind c json (λ choices. run_under t kind c choices) text out → HeadlineOfTraces t kind c json text out
traces-by-bus t kind c json text out prints = record {
  atomic = λ is. subst (λ (b : Bus). PrintsEachTrace t kind c json (λ choices. run_by b (table_of kind) c t choices) text out) is prints;
  split = λ is. subst (λ (b : Bus). PrintsEachTrace t kind c json (λ choices. run_by b (table_of kind) c t choices) text out) is prints;
}

sweeps-by-bus : (t : Litmus) (kind : ProtocolKind) (c : Configuration) (plan : Plan) (out : List ℕ)
    → PrintsSweep t kind c plan (λ choices. run_under t kind c choices) out → HeadlineOfSweeps t kind c plan out
sweeps-by-bus t kind c plan out prints = record {
  atomic = λ is. subst (λ (b : Bus). PrintsSweep t kind c plan (λ choices. run_by b (table_of kind) c t choices) out) is prints;
  split = λ is. subst (λ (b : Bus). PrintsSweep t kind c plan (λ choices. run_by b (table_of kind) c t choices) out) is prints;
}

-- what is known of runs and reports
pub record Runs : Type 0 where
  pub executions : (table : Table) (c : Configuration) (t : Litmus) (choices : List Choice) → IsTest t → AnswersFitBy table c t choices
      → (run_by c.bus table c t choices).ended ≡ true → IsExecution t (run_by c.bus table c t choices)
  pub words : (table : Table) (c : Configuration) (t : Litmus) (choices : List Choice) → IsTest t → AnswersFitBy table c t choices
      → (run_by c.bus table c t choices).ended ≡ true → HoldsWords (run_by c.bus table c t choices).commits (run_by c.bus table c t choices).state
  pub unbuffered : (table : Table) (c : Configuration) (t : Litmus) (choices : List Choice) → c.depth ≡ 0 → IsTest t → AnswersFitBy table c t choices
      → (run_by c.bus table c t choices).ended ≡ true → KeepsAllOrder (run_by c.bus table c t choices).commits
  pub atomic : (table : Table) (c : Configuration) (t : Litmus) (choices : List Choice) → c.bus ≡ Atomic → AnswersFitBy table c t choices
  pub fits : (t : Litmus) (order : List Entry) (e : Entry) → IsWellFormed t → IsWhole t order → StandsIn order e → FitsTest t e
  pub report_spells : (t : Litmus) (kind : ProtocolKind) (c : Configuration) (s : ShownRun)
      → IsTest t
      → c.depth < 2 ^ 64
      → IsShape c.shape
      → IsOrderFor t s.order
      → SpellsOrder t (report t kind c s) s.order

pub report-spells : (t : Litmus) (kind : ProtocolKind) (c : Configuration) (json : Bool) (choices : List Choice)
    (out : List ℕ)
    → Runs
    → IsTest t
    → IsConfigurationWithinLimits c
    → AnswersFit t kind c choices → out ≡ written_of t kind c json choices → HasEnded t kind c choices → Spells t kind c json choices out
report-spells t kind c true choices out laws test within fit is ended plain = absurd (let no : ⊥ = cc in no)
report-spells t kind c false choices out laws test within fit is ended plain =
    let depth : c.depth < 2 ^ 64 = let d = within.0 in omega arith in
    run-spells t kind c (run_under t kind c choices)
    (shown_of t (counts_under t kind c choices) (run_under t kind c choices)) out test depth within.1 laws.report_spells
    laws.fits
    (laws.executions (table_of kind) c t choices test fit ended) refl (rw ended at is) (laws.words (table_of kind) c t choices test fit ended).values

answer-means : (s : Settings) (t : Litmus) (text out : List ℕ) (status : Status)
    → AreReadOneWay
    → Runs
    → Reaching
    → Searches
    → Refuting
    → IsWithinLimits s
    → IsTest t
    → length text < 2 ^ 64
    → IsAnswerTo s t text out status → HeadlineOf s t text out
answer-means (settings.Run kind c set json) t text out status texts runs reaching searches refuting within test short is =
    runs-by-bus t kind c json text out
    (run-means t kind c json text out status (texts.decided (length t.programs) text test.some_core)
    (λ choices. runs.executions (table_of kind) c t choices test)
    (λ choices none. runs.unbuffered (table_of kind) c t choices none test)
    (λ choices out. report-spells t kind c json choices out runs test within) is)
answer-means (settings.Trace kind c set json) t text out status texts runs reaching searches refuting within test short is =
    traces-by-bus t kind c json text out
    (trace-means t kind c json text out status (texts.decided (length t.programs) text test.some_core)
    (λ choices. runs.executions (table_of kind) c t choices test)
    (λ choices none. runs.unbuffered (table_of kind) c t choices none test)
    (λ choices out. report-spells t kind c json choices out runs test within) is)
answer-means (settings.Sweep kind c set plan) t text out status texts runs reaching searches refuting within test short is =
    sweeps-by-bus t kind c plan out
    (sweep-means t kind c plan out status
    (λ choices. runs.executions (table_of kind) c t choices test)
    (λ choices none. runs.unbuffered (table_of kind) c t choices none test) (runs.atomic (table_of kind) c t) is)
answer-means (settings.Counts kind c set plan json) t text out status texts runs reaching searches refuting within test short is =
    counts-mean t kind c plan json text out status (texts.decided (length t.programs) text test.some_core)
    (λ choices. runs.executions (table_of kind) c t choices test) is
answer-means (settings.Outcomes search set json assert) t text out status texts runs reaching searches refuting within test short is =
    outcomes-mean t search json assert out status reaching searches test is
answer-means (settings.Why plan set json assert) t text out status texts runs reaching searches refuting within test short is =
    reasons-mean t plan json assert out status reaching refuting test is
answer-means (settings.Check set) t text out status texts runs reaching searches refuting within test short is =
    check-means t text out status texts.real texts.one texts.once texts.never_both test short is
answer-means (settings.Witness depth set) t text out status texts runs reaching searches refuting within test short is =
    witness-means t depth text out status texts reaching test within short is
answer-means (settings.Tables kind) t text out status texts runs reaching searches refuting within test short is = is.text

pub input-means : (s : Settings) (input out : List ℕ) (status : Status) → AreReadOneWay → Runs → Reaching → Searches → Refuting → IsWithinLimits s
    → IsInputAnswer s input out status → InputHeadline s input out
input-means s input _ _ texts runs reaching searches refuting within (too_large large) = record { within = λ small. absurd (omega arith); above = λ _. refl }
input-means s input _ _ texts runs reaching searches refuting within (refused fault small is) = record {
  within = λ _. record {
    every_test = λ t spelled. absurd (texts.refused_or_not (instructions_of s) (parts_of input).test t fault spelled is);
    every_other = λ none. (fault, is, refl);
  };
  above = λ large. absurd (omega arith);
}
input-means s input _ _ texts runs reaching searches refuting within (answered t out status small spelled is) = record {
  within = λ _. record {
    every_test = λ other too.
        subst (λ (t : Litmus). HeadlineOf s t (parts_of input).rest out)
        (texts.one_test (instructions_of s) (parts_of input).test t other spelled too)
        (answer-means s t (parts_of input).rest out status texts runs reaching searches refuting within
        (texts.test (instructions_of s) (parts_of input).test t spelled) (short_rest input small) is);
    every_other = λ none. absurd (none t spelled);
  };
  above = λ large. absurd (omega arith);
}

known-means : (s : Settings) (known : Option (List ℕ)) (out : List ℕ) (status : Status)
    → AreReadOneWay
    → Runs
    → Reaching
    → Searches
    → Refuting
    → IsWithinLimits s
    → IfSome known (λ input. IsInputAnswer s input out status) → IfSome known (λ input. InputHeadline s input out)
known-means s None out status texts runs reaching searches refuting within is = tt
known-means s (Some input) out status texts runs reaching searches refuting within is =
    input-means s input out status texts runs reaching searches refuting within is

pub command-means : (s : Settings) (known : Option (List ℕ)) (out : List ℕ) (status : Status)
    → AreReadOneWay
    → Runs
    → Reaching
    → Searches
    → Refuting
    → IsWithinLimits s
    → IsAnswer s known out status → Headline s known out
command-means (settings.Tables kind) known out status texts runs reaching searches refuting within is = is.text
command-means s known out status texts runs reaching searches refuting within is =
    known-means s known out status texts runs reaching searches refuting within is
