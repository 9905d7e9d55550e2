-- The text of a trace, put together of what was written.
use Rattle.tso_cli.proofs.Vocabulary.{◌≡◌, ℕ, true, List, ◌++◌, refl, sym, ap, ◌∙◌, append_assoc, Litmus, Run, Counts, Choice}
use Rattle.tso_cli.proofs.Vocabulary.{Configuration, ProtocolKind, Good, Unended, Ended, Unfinished, IsEndingOf, HasCounts, run_under}
use Rattle.tso_cli.proofs.Vocabulary.{counts_under, status_under, body, shown_of, ending_text, traced_in}
use Rattle.machine_runs.specs.declared.driving.Ending.{Ending}
use Rattle.tso_report.specs.Shown.{ShownRun}
use Rattle.trace_report.specs.TraceJson.{trace_json}
use Rattle.trace_report.specs.TracedRun.{line_with, ending_members, json_ended, json_unended}
use Rattle.tso_cli.specs.inner.Trace.{lines_left, status_in}

-- three pieces, one after the other
pub three-pieces : (head trace ending first second all : List ℕ) → first ≡ head → second ≡ first ++ trace → all ≡ second ++ ending
    → all ≡ head ++ (trace ++ ending)
three-pieces head trace ending first second all is_first is_second is =
    is ∙ ap (λ (x : List ℕ). x ++ ending) (is_second ∙ ap (λ (x : List ℕ). x ++ trace) is_first) ∙ append_assoc head trace ending

-- what is after the trace of a run
pub lines-are : (t : Litmus) (counts : List Counts) (r : Run) (e : Ending) → IsEndingOf t r e → HasCounts counts e → lines_left t e ≡ ending_text t counts r
lines-are t counts r (Ended run) is counted =
    ap (λ (x : ShownRun). body t x) (is.1 ∙ ap (λ (cs : List Counts). shown_of t cs r) counted) ∙ sym (rw is.0 refl)
lines-are t counts r (Unfinished used stalled) is counted = rw (is.0, is.1, is.2) refl

-- what is printed as JSON of how a run left its test
pub ending-is : (t : Litmus) (kind : ProtocolKind) (c : Configuration) (choices : List Choice) (e : Ending)
    → IsEndingOf t (run_under t kind c choices) e → HasCounts (counts_under t kind c choices) e
    → (line_with t (trace_json t kind c choices) (ending_members t kind c e) ≡ traced_in true t kind c choices) × (status_in e ≡ status_under t kind c choices)
ending-is t kind c choices (Ended run) is counted =
    let counts = counts_under t kind c choices in
    let r = run_under t kind c choices in
    let shown = is.1 ∙ ap (λ (cs : List Counts). shown_of t cs r) counted in
    let whole : json_ended t kind c choices (shown_of t counts r) ≡ traced_in true t kind c choices = rw is.0 refl in
    let status : Good ≡ status_under t kind c choices = rw is.0 refl in
    (ap (json_ended t kind c choices) shown ∙ whole, status)
ending-is t kind c choices (Unfinished used stalled) is counted =
    let whole : json_unended t kind c choices used stalled ≡ traced_in true t kind c choices = rw (is.0, is.1, is.2) refl in
    let status : Unended ≡ status_under t kind c choices = rw is.0 refl in
    (whole, status)
