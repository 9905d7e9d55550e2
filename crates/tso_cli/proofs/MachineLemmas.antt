-- On the atomic bus the protocol and the shape of the caches change two kinds of lines alone.
use Rattle.tso_cli.proofs.Vocabulary.{Instructions, ◌≡◌, ◌<◌, ◌==◌, ◌+◌, ℕ, zero, suc, Bool, true, false, cond, List, [], ◌∷◌, ◌++◌, length}
use Rattle.tso_cli.proofs.Vocabulary.{Some, codes, refl, sym, ap, subst, ◌∙◌, inl, inr, append_assoc, append-nil, decimal, Litmus}
use Rattle.tso_cli.proofs.Vocabulary.{registers_in, Run, run, Choice, IsDecidedAsChoices, TooMany, table_of, ProtocolKind, Configuration}
use Rattle.tso_cli.proofs.Vocabulary.{printed_order, ShownRun, line, head, body, test_line, machine_line, register_lines, memory_line}
use Rattle.tso_cli.proofs.Vocabulary.{condition_line, choices_line, cache_lines, report, RunCounts, tally_text, Plan, EndsInFeed}
use Rattle.tso_cli.proofs.Vocabulary.{choices_refusal, unfinished_run_line, report_in, unfinished_in, run_under, counts_under, shown_of}
use Rattle.tso_cli.proofs.Vocabulary.{verdict, sweep_status, IsSweepAnswer, choices_of, seeded_run, with_one_run, counts_from, sweep_counts}
use Rattle.tso_cli.proofs.Vocabulary.{IsAnswer, run_text, run_status, status_under, IsRunAnswer, ran, ending_text, IsTraceAnswer, traced}
use Rattle.tso_cli.proofs.Vocabulary.{traced_in, FitsForm, IsTooLong, too_long, trace_text, trace_under, json_ended, json_unended}
use Rattle.tso_cli.proofs.Vocabulary.{AreReadOneWay, Status, Good, Refused, Unended, atomic-run, counts-each}
use Rattle.multiprocessor.specs.declared.counts.Counts.{Counts}
use Rattle.tso_report.specs.Json.{json_report}
use Rattle.tso_report.specs.inner.JsonFrame.{other_members}
use Rattle.command_line.specs.declared.settings.Settings.TheVariants as settings
use Rattle.tso_cli.specs.Answers.{refused}
use Rattle.tso_cli.specs.CommandAnswers.{text_under, refused}
use Rattle.tso_cli.specs.Machines.{AreAtomicAtOneDepth, DifferInLines, DifferInMembers, ReportsDiffer, RunsAnswerAlike, TracesDiffer}
use Rattle.tso_cli.specs.Machines.{TracesAnswerAlike, SweepsAnswerAlike, TracesDifferIn}
use Rattle.tso_cli.specs.Trace.{traced_text, refused, object_text}
use Rattle.trace_report.specs.Shown.{ShownStep as Step}
use Rattle.tso_cli.proofs.OneAnswer.{inputs-alike}
use Rattle.tso_cli.proofs.TraceLengths.{never-both, one-word}

-- ---- a report as one text with two places

ends-line : (text : List ℕ) → EndsInFeed (line text)
ends-line text = (text, refl)

ends-after : (front back : List ℕ) → EndsInFeed back → EndsInFeed (front ++ back)
ends-after front back ends = (front ++ ends.0, ap (λ (b : List ℕ). front ++ b) ends.1 ∙ sym (append_assoc front ends.0 (10 ∷ [])))

ends-test : (t : Litmus) → EndsInFeed (test_line t)
ends-test t = ends-after (codes "Test ") (line t.name) (ends-line t.name)

-- the lines between the machine's and the caches'
abbrev middle_lines : Litmus → ShownRun → List ℕ
middle_lines t s =
    printed_order t s.order
    ++ (register_lines 0 s.registers
    ++ (memory_line t s.memory ++ (condition_line t s.holds ++ choices_line s.used s.stalled s.unused)))

ends-choices : (used stalled unused : ℕ) → EndsInFeed (choices_line used stalled unused)
ends-choices used stalled unused =
    ends-after (codes "Choices used=") _ (ends-after (decimal used) _ (ends-after (codes " stalled=") _ (ends-after (decimal stalled) _
    (ends-after (codes " unused=") (line (decimal unused)) (ends-line (decimal unused))))))

ends-middle : (t : Litmus) (s : ShownRun) → EndsInFeed (middle_lines t s)
ends-middle t s =
    ends-after (printed_order t s.order) _ (ends-after (register_lines 0 s.registers) _ (ends-after (memory_line t s.memory) _
    (ends-after (condition_line t s.holds) _ (ends-choices s.used s.stalled s.unused))))

regrouped : (a b c d e f : List ℕ) → a ++ (b ++ (c ++ (d ++ (e ++ f)))) ≡ (a ++ (b ++ (c ++ (d ++ e)))) ++ f
regrouped a b c d e f = sym (
    append_assoc a (b ++ (c ++ (d ++ e))) f
    ∙ ap (λ (x : List ℕ). a ++ x) (append_assoc b (c ++ (d ++ e)) f
    ∙ ap (λ (x : List ℕ). b ++ x) (append_assoc c (d ++ e) f ∙ ap (λ (x : List ℕ). c ++ x) (append_assoc d e f))))

report-is : (t : Litmus) (kind : ProtocolKind) (c : Configuration) (s : ShownRun)
    → report t kind c s ≡ test_line t ++ (machine_line kind c ++ (middle_lines t s ++ cache_lines 0 s.counts))
report-is t kind c s =
    ap (λ (x : List ℕ). (test_line t ++ machine_line kind c) ++ x)
    (regrouped (printed_order t s.order) (register_lines 0 s.registers) (memory_line t s.memory)
    (condition_line t s.holds) (choices_line s.used s.stalled s.unused) (cache_lines 0 s.counts))
    ∙ append_assoc (test_line t) (machine_line kind c) (middle_lines t s ++ cache_lines 0 s.counts)

-- ---- two reports of one run, with other counts

module _ (t : Litmus) (kind other : ProtocolKind) (c d : Configuration) (counts others : List Counts) (r : Run) (cores : length counts ≡ length others) where
  lines-differ : DifferInLines kind other c d (report t kind c (shown_of t counts r)) (report t other d (shown_of t others r))
  lines-differ = record {
    front = test_line t;
    middle = middle_lines t (shown_of t counts r);
    counts = counts;
    others = others;
    whole_lines = (ends-test t, ends-middle t (shown_of t counts r));
    cores = cores;
    first = report-is t kind c (shown_of t counts r);
    second = report-is t other d (shown_of t others r);
  }

  members-differ : DifferInMembers kind other c d (json_report t kind c (shown_of t counts r)) (json_report t other d (shown_of t others r))
  members-differ = record {
    rest = other_members t (shown_of t counts r);
    counts = counts;
    others = others;
    cores = cores;
    first = refl;
    second = refl;
  }

  reports-differ : (json : Bool)
      → ReportsDiffer json kind other c d (report_in json t kind c (shown_of t counts r)) (report_in json t other d (shown_of t others r))
  reports-differ false = lines-differ
  reports-differ true = members-differ

  one-run-alike : (json : Bool)
      → RunsAnswerAlike json kind other c d (run_text t kind c json counts r) (run_text t other d json others r) (run_status r) (run_status r)
  one-run-alike json = by_end r.ended (reports-differ json)
    where
      by_end : (b : Bool) → ReportsDiffer json kind other c d (report_in json t kind c (shown_of t counts r)) (report_in json t other d (shown_of t others r))
          → RunsAnswerAlike json kind other c d (cond b (report_in json t kind c (shown_of t counts r)) (unfinished_in json r.used r.stalled))
          (cond b (report_in json t other d (shown_of t others r)) (unfinished_in json r.used r.stalled)) (cond b Good Unended) (cond b Good Unended)
      by_end true differ = record { status = refl; ended = λ good. differ; otherwise = λ not_good. absurd (not_good refl) }
      by_end false differ = record { status = refl; ended = λ good. absurd (let no : ⊥ = cc in no); otherwise = λ not_good. refl }

-- ---- the run is the same, and so many cores are counted

same-run : (t : Litmus) (kind other : ProtocolKind) (c d : Configuration) (choices : List Choice) → AreAtomicAtOneDepth c d
    → run_under t kind c choices ≡ run_under t other d choices
same-run t kind other c d choices shape =
    atomic-run (table_of kind) c t choices shape.atomic ∙ ap (λ (depth : ℕ). run t depth choices) shape.depth
    ∙ sym (atomic-run (table_of other) d t choices shape.atomic_too)

same-cores : (t : Litmus) (kind other : ProtocolKind) (c d : Configuration) (choices : List Choice)
    → length (counts_under t kind c choices) ≡ length (counts_under t other d choices)
same-cores t kind other c d choices =
    counts-each c.bus (table_of kind) c.shape t c.depth choices ∙ sym (counts-each d.bus (table_of other) d.shape t d.depth choices)

-- ---- the answers

never-refused : (b : Bool) → cond b Good Unended ≡ Refused → ⊥
never-refused true h = let no : ⊥ = cc in no
never-refused false h = let no : ⊥ = cc in no

ends-unfinished : (used stalled : ℕ) → EndsInFeed (unfinished_run_line used stalled)
ends-unfinished used stalled =
    ends-after (codes "Unfinished used=") _
    (ends-after (decimal used) _ (ends-after (codes " stalled=") (line (decimal stalled)) (ends-line (decimal stalled))))

trace-refusals-alike : (json : Bool) (kind other : ProtocolKind) (c d : Configuration) (out again : List ℕ) → out ≡ again
    → TracesAnswerAlike json kind other c d out again Refused Refused
trace-refusals-alike json kind other c d out again same = record {
  status = refl;
  traced = λ not_refused. absurd (not_refused refl);
  refused = λ is_refused. same;
}

refusals-alike : (json : Bool) (kind other : ProtocolKind) (c d : Configuration) (out again : List ℕ) → out ≡ again
    → RunsAnswerAlike json kind other c d out again Refused Refused
refusals-alike json kind other c d out again same = record { status = refl; ended = λ good. absurd (let no : ⊥ = cc in no); otherwise = λ not_good. same }

run-answers-alike : (t : Litmus) (kind other : ProtocolKind) (c d : Configuration) (json : Bool) (text out again : List ℕ) (status too : Status)
    → IsDecidedAsChoices (length t.programs) text
    → AreAtomicAtOneDepth c d
    → IsRunAnswer t kind c json text out status
    → IsRunAnswer t other d json text again too
    → RunsAnswerAlike json kind other c d out again status too
run-answers-alike t kind other c d json text _ _ _ _ law shape (refused f h) (refused g k) =
    refusals-alike json kind other c d (choices_refusal f) (choices_refusal g) (ap choices_refusal (law.one_refusal f g h k))
run-answers-alike t kind other c d json text _ _ _ _ law shape (refused f h) (ran choices spelled fit) = absurd (law.never_both choices f spelled h)
run-answers-alike t kind other c d json text _ _ _ _ law shape (ran choices spelled fit) (refused f h) = absurd (law.never_both choices f spelled h)
run-answers-alike t kind other c d json text _ _ _ _ law shape (ran choices spelled fit) (ran others again fit_too) =
    let out = text_under t kind c json choices in
    let status = status_under t kind c choices in
    subst (λ (cs : List Choice).
    RunsAnswerAlike json kind other c d out (text_under t other d json cs) status (status_under t other d cs))
    (law.one_list choices others spelled again)
    (subst (λ (r : Run).
    RunsAnswerAlike json kind other c d out (run_text t other d json (counts_under t other d choices) r) status (run_status r))
    (same-run t kind other c d choices shape)
    (one-run-alike t kind other c d (counts_under t kind c choices) (counts_under t other d choices)
    (run_under t kind c choices) (same-cores t kind other c d choices) json))

-- two traces of one run, with other steps and other counts
module _ (t : Litmus) (kind other : ProtocolKind) (c d : Configuration) (steps other_steps : List Step)
    (counts others : List Counts) (cores : length counts ≡ length others) (r : Run) where
  abbrev trace_with : ProtocolKind → Configuration → List Step → List ℕ → List ℕ
  trace_with named config told ending = head t named config ++ (trace_text t config.shape.words told ++ ending)

  body-is : (all : List Counts) → body t (shown_of t all r) ≡ middle_lines t (shown_of t counts r) ++ cache_lines 0 all
  body-is all = regrouped (printed_order t r.commits) (register_lines 0 (registers_in r.state)) (memory_line t r.state.memory)
      (condition_line t (verdict t (registers_in r.state) r.state.memory)) (choices_line r.used r.stalled r.unused) (cache_lines 0 all)

  no-end : (text : List ℕ) → text ≡ text ++ []
  no-end text = sym (append-nil text)

  traces-differ : (b : Bool) → TracesDiffer kind other c d
      (trace_with kind c steps (cond b (body t (shown_of t counts r)) (unfinished_run_line r.used r.stalled)))
      (trace_with other d other_steps (cond b (body t (shown_of t others r)) (unfinished_run_line r.used r.stalled)))
  traces-differ true = record {
    t = t;
    steps = steps;
    other_steps = other_steps;
    rest = middle_lines t (shown_of t counts r);
    counts = counts;
    others = others;
    whole_lines = ends-middle t (shown_of t counts r);
    cores = cores;
    first = ap (λ (ending : List ℕ). trace_with kind c steps ending) (body-is counts);
    second = ap (λ (ending : List ℕ). trace_with other d other_steps ending) (body-is others);
  }
  traces-differ false = record {
    t = t;
    steps = steps;
    other_steps = other_steps;
    rest = unfinished_run_line r.used r.stalled;
    counts = [];
    others = [];
    whole_lines = ends-unfinished r.used r.stalled;
    cores = refl;
    first = ap (λ (ending : List ℕ). trace_with kind c steps ending) (no-end (unfinished_run_line r.used r.stalled));
    second = ap (λ (ending : List ℕ). trace_with other d other_steps ending) (no-end (unfinished_run_line r.used r.stalled));
  }

  traced-alike : TracesAnswerAlike false kind other c d (trace_with kind c steps (ending_text t counts r))
      (trace_with other d other_steps (ending_text t others r)) (run_status r) (run_status r)
  traced-alike = record { status = refl; traced = λ not_refused. traces-differ r.ended; refused = λ is_refused. absurd (never-refused r.ended is_refused) }

-- two traces of one run as JSON
module _ (t : Litmus) (kind other : ProtocolKind) (c d : Configuration) (choices : List Choice)
    (counts others : List Counts) (cores : length counts ≡ length others) (r : Run) where
  objects-differ : (b : Bool) → TracesDifferIn true kind other c d
      (cond b (json_ended t kind c choices (shown_of t counts r)) (json_unended t kind c choices r.used r.stalled))
      (cond b (json_ended t other d choices (shown_of t others r)) (json_unended t other d choices r.used r.stalled))
  objects-differ true = inl (record {
    t = t;
    choices = choices;
    shown = shown_of t counts r;
    other_shown = shown_of t others r;
    reports = members-differ t kind other c d counts others r cores;
    first = refl;
    second = refl;
  })
  objects-differ false = inr (record {
    t = t;
    choices = choices;
    used = r.used;
    stalled = r.stalled;
    first = refl;
    second = refl;
  })

  objects-alike : TracesAnswerAlike true kind other c d (object_text t kind c choices counts r)
      (object_text t other d choices others r) (run_status r) (run_status r)
  objects-alike = record { status = refl; traced = λ not_refused. objects-differ r.ended; refused = λ is_refused. absurd (never-refused r.ended is_refused) }

one-trace-alike : (json : Bool) (t : Litmus) (kind other : ProtocolKind) (c d : Configuration) (choices : List Choice) → AreAtomicAtOneDepth c d
    → TracesAnswerAlike json kind other c d (traced_in json t kind c choices) (traced_in json t other d choices)
    (status_under t kind c choices) (status_under t other d choices)
one-trace-alike false t kind other c d choices shape =
    let out = traced_text t kind c choices in
    let status = status_under t kind c choices in
    let steps = trace_under t kind c choices in
    let other_steps = trace_under t other d choices in
    let counts = counts_under t other d choices in
    subst (λ (r : Run).
    TracesAnswerAlike false kind other c d out
    (head t other d ++ (trace_text t d.shape.words other_steps ++ ending_text t counts r)) status (run_status r))
    (same-run t kind other c d choices shape)
    (traced-alike t kind other c d steps other_steps (counts_under t kind c choices) counts (same-cores t kind other c d choices) (run_under t kind c choices))
one-trace-alike true t kind other c d choices shape =
    let out = traced_in true t kind c choices in
    let status = status_under t kind c choices in
    let counts = counts_under t other d choices in
    subst (λ (r : Run).
    TracesAnswerAlike true kind other c d out (object_text t other d choices counts r) status (run_status r))
    (same-run t kind other c d choices shape)
    (objects-alike t kind other c d choices (counts_under t kind c choices) counts (same-cores t kind other c d choices) (run_under t kind c choices))

trace-answers-alike : (t : Litmus) (kind other : ProtocolKind) (c d : Configuration) (json : Bool)
    (text out again : List ℕ) (status too : Status)
    → 0 < length t.programs
    → IsDecidedAsChoices (length t.programs) text
    → AreAtomicAtOneDepth c d
    → IsTraceAnswer t kind c json text out status
    → IsTraceAnswer t other d json text again too
    → TracesAnswerAlike json kind other c d out again status too
trace-answers-alike t kind other c d json text _ _ _ _ some law shape (refused f h) (refused g k) =
    trace-refusals-alike json kind other c d (choices_refusal f) (choices_refusal g) (ap choices_refusal (law.one_refusal f g h k))
trace-answers-alike t kind other c d json text _ _ _ _ some law shape (refused f h) (too_long choices word spelled long is) =
    absurd (law.never_both choices f spelled h)
trace-answers-alike t kind other c d json text _ _ _ _ some law shape (refused f h) (traced choices spelled fit short) =
    absurd (law.never_both choices f spelled h)
trace-answers-alike t kind other c d json text _ _ _ _ some law shape (too_long choices word spelled long is) (refused f h) =
    absurd (law.never_both choices f spelled h)
trace-answers-alike t kind other c d json text _ _ _ _ some law shape (too_long choices word spelled long is) (too_long others word_too again longer too) =
    trace-refusals-alike json kind other c d (choices_refusal (TooMany word)) (choices_refusal (TooMany word_too))
    (ap (λ (n : ℕ). choices_refusal (TooMany n)) (one-word (length t.programs) text word word_too some is too))
trace-answers-alike t kind other c d json text _ _ _ _ some law shape (too_long choices word spelled long is) (traced others again fit short) =
    absurd (never-both json (run_under t other d others) short
    (subst (λ (r : Run). IsTooLong json r) (same-run t kind other c d others shape)
    (subst (λ (cs : List Choice). IsTooLong json (run_under t kind c cs)) (law.one_list choices others spelled again) long)))
trace-answers-alike t kind other c d json text _ _ _ _ some law shape (traced choices spelled fit short) (refused f h) =
    absurd (law.never_both choices f spelled h)
trace-answers-alike t kind other c d json text _ _ _ _ some law shape (traced choices spelled fit short) (too_long others word again long is) =
    absurd (never-both json (run_under t other d others)
    (subst (λ (r : Run). FitsForm json r) (same-run t kind other c d others shape)
    (subst (λ (cs : List Choice). FitsForm json (run_under t kind c cs)) (law.one_list choices others spelled again) short)) long)
trace-answers-alike t kind other c d json text _ _ _ _ some law shape (traced choices spelled fit short) (traced others again fit_too less) =
    subst (λ (cs : List Choice).
    TracesAnswerAlike json kind other c d (traced_in json t kind c choices) (traced_in json t other d cs)
    (status_under t kind c choices) (status_under t other d cs))
    (law.one_list choices others spelled again) (one-trace-alike json t kind other c d choices shape)

-- what is counted of a sweep is the same
same-counts : (t : Litmus) (kind other : ProtocolKind) (c d : Configuration) (count from seeds : ℕ) → AreAtomicAtOneDepth c d
    → counts_from t kind c count from seeds ≡ counts_from t other d count from seeds
same-counts t kind other c d count from zero shape = refl
same-counts t kind other c d count from (suc n) shape =
    ap (λ (r : Run). with_one_run t r (counts_from t kind c count from n)) (same-run t kind other c d (choices_of t count (from + n)) shape)
    ∙ ap (λ (k : RunCounts). with_one_run t (seeded_run t other d count (from + n)) k) (same-counts t kind other c d count from n shape)

sweep-answers-alike : (t : Litmus) (kind other : ProtocolKind) (c d : Configuration) (plan : Plan) (out again : List ℕ) (status too : Status)
    → AreAtomicAtOneDepth c d
    → IsSweepAnswer t kind c plan out status
    → IsSweepAnswer t other d plan again too
    → SweepsAnswerAlike kind other c d out again status too
sweep-answers-alike t kind other c d plan out again status too shape is is_too =
    let same : sweep_counts t kind c plan ≡ sweep_counts t other d plan = same-counts t kind other c d plan.length plan.from plan.seeds shape in
    let told : RunCounts → List ℕ = λ counts. tally_text t counts plan.from plan.length in
    record {
      status = is.status_is ∙ ap sweep_status same ∙ sym is_too.status_is;
      swept = λ not_refused. record {
        front = test_line t;
        back = told (sweep_counts t kind c plan);
        whole_lines = ends-test t;
        first = is.text ∙ append_assoc (test_line t) (machine_line kind c) (told (sweep_counts t kind c plan));
        second = is_too.text ∙ append_assoc (test_line t) (machine_line other d) (told (sweep_counts t other d plan))
            ∙ ap (λ (counts : RunCounts). test_line t ++ (machine_line other d ++ told counts)) (sym same);
      };
      refused = λ is_refused. absurd (never-refused ((sweep_counts t kind c plan).unfinished == 0) (sym is.status_is ∙ is_refused));
    }

pub runs-alike : (kind other : ProtocolKind) (c d : Configuration) (set : Instructions) (json : Bool)
    (input out again : List ℕ) (status too : Status)
    → AreReadOneWay
    → AreAtomicAtOneDepth c d
    → IsAnswer (settings.Run kind c set json) (Some input) out status → IsAnswer (settings.Run other d set json) (Some input) again too
    → RunsAnswerAlike json kind other c d out again status too
runs-alike kind other c d set json input out again status too law shape is is_too =
    inputs-alike (settings.Run kind c set json) (settings.Run other d set json) (RunsAnswerAlike json kind other c d) input out again status too law refl
    (λ text. refusals-alike json kind other c d text text refl)
    (λ t text out again status too test short.
    run-answers-alike t kind other c d json text out again status too (law.decided (length t.programs) text test.some_core) shape)
    is is_too

pub traces-alike : (kind other : ProtocolKind) (c d : Configuration) (set : Instructions) (json : Bool)
    (input out again : List ℕ) (status too : Status)
    → AreReadOneWay
    → AreAtomicAtOneDepth c d
    → IsAnswer (settings.Trace kind c set json) (Some input) out status → IsAnswer (settings.Trace other d set json) (Some input) again too
    → TracesAnswerAlike json kind other c d out again status too
traces-alike kind other c d set json input out again status too law shape is is_too =
    inputs-alike (settings.Trace kind c set json) (settings.Trace other d set json) (TracesAnswerAlike json kind other c d) input out again status too law refl
    (λ text. trace-refusals-alike json kind other c d text text refl)
    (λ t text out again status too test short.
    trace-answers-alike t kind other c d json text out again status too test.some_core
    (law.decided (length t.programs) text test.some_core) shape)
    is is_too

pub sweeps-alike : (kind other : ProtocolKind) (c d : Configuration) (set : Instructions) (plan : Plan)
    (input out again : List ℕ) (status too : Status)
    → AreReadOneWay
    → AreAtomicAtOneDepth c d
    → IsAnswer (settings.Sweep kind c set plan) (Some input) out status → IsAnswer (settings.Sweep other d set plan) (Some input) again too
    → SweepsAnswerAlike kind other c d out again status too
sweeps-alike kind other c d set plan input out again status too law shape is is_too =
    inputs-alike (settings.Sweep kind c set plan) (settings.Sweep other d set plan) (SweepsAnswerAlike kind other c d) input out again status too law refl
    (λ text. record { status = refl; swept = λ not_refused. absurd (not_refused refl); refused = λ is_refused. refl })
    (λ t text out again status too test short. sweep-answers-alike t kind other c d plan out again status too shape) is is_too
