use Rattle.tso_cli.proofs.Vocabulary.{◌∙◌, ◌++◌, refl, ap, string_bytes, table_of, false, run_under, counts_under, head, trace_text}
use Rattle.tso_cli.proofs.Vocabulary.{trace_under, ending_text, traced_in, status_under, traced, IsTraceAnswer}
use Rattle.trace_report.proofs.Traced.{traced-first}
use Rattle.tso_cli.proofs.AnswerLemmas.{same-answer}
use Rattle.tso_cli.proofs.StepLemmas.{status-is}
use Rattle.tso_cli.proofs.ToldLines.{trace-told}
use Rattle.tso_cli.proofs.TraceLemmas.{three-pieces, lines-are}
use Rattle.tso_cli.proofs.TraceLengths.{lines-fit}
use Rattle.tso_cli.proofs.told_run.lines_answer.Goals as goal

pub simulate_observed-requires-clause-begins : goal.simulate_observed-requires-clause-begins
simulate_observed-requires-clause-begins c = λ table. traced-first table c.args.setup.now.config c.args.setup.now.test.now

pub returns : goal.returns
returns c =
    let t = c.args.setup.now.test.now in
    let kind = c.args.setup.now.protocol in
    let config = c.args.setup.now.config in
    let choices = c.args.choices.now in
    let counts = counts_under t kind config choices in
    let r = run_under t kind config choices in
    let told = trace-told (table_of kind) config t _ c.simulate_observed.new.observer choices refl refl refl c.in_ok-ending.ensures.watched in
    let text = three-pieces (head t kind config) (trace_text t config.shape.words (trace_under t kind config choices)) (ending_text t counts r)
    (string_bytes c.in_ok-head.head) (string_bytes c.simulate_observed.new.observer.text) (string_bytes c.write_left.new.text)
    c.in_ok-head.ensures told
    (c.in_ok-write_left.ensures
    ∙ ap (λ x. string_bytes c.simulate_observed.new.observer.text ++ x)
    (lines-are t counts r c.in_ok-ending.ending c.in_ok-ending.ensures.ending c.in_ok-ending.ensures.counts)) in
    same-answer (IsTraceAnswer t kind config false c.args.text.now) _ (traced_in false t kind config choices)
    c.status_in-status.result (status_under t kind config choices)
    text (c.status_in-status.ensures ∙ status-is t r c.in_ok-ending.ending c.in_ok-ending.ensures.ending)
    (traced choices c.requires.spelled c.in_ok-ending.ensures.answers (lines-fit r))
