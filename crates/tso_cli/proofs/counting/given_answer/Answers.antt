use Rattle.tso_cli.proofs.Vocabulary.{None, ◌≢◌, ap, ◌∙◌, choices_refusal, Refused}
use Rattle.scheduler.specs.declared.fault.ChoiceFault.TheVariants as faults
use Rattle.cache_counts.specs.Counted.{counted_once}
use Rattle.tso_cli.specs.Counts.{told_counts, counts_status, IsCountOfGiven, ran, refused}
use Rattle.tso_cli.proofs.AnswerLemmas.{refusal-is, same-answer}
use Rattle.tso_cli.proofs.counting.given_answer.Goals as goal

pub returns-in_ok-text_of_runs-in-Ok : goal.returns-in_ok-text_of_runs-in-Ok
returns-in_ok-text_of_runs-in-Ok c =
    let setup = c.args.setup.now in
    let choices = c.in-Ok.choices.items in
    let k = counted_once setup.test.now setup.protocol setup.config choices in
    let left = rw c.deref.ensures.value at c.in_ok-runs-in-Ok.ensures in
    same-answer (IsCountOfGiven setup.test.now setup.protocol setup.config c.args.json c.args.text.now) _
    (told_counts c.args.json setup.test.now setup.protocol setup.config None k)
    c.status_of-status.result (counts_status k)
    (c.in_ok-text_of_runs-in-Ok.ensures ∙ ap (told_counts c.args.json setup.test.now setup.protocol setup.config None) left.counted)
    (c.status_of-status.ensures ∙ ap counts_status left.counted)
    (ran choices (rw c.cores.ensures.value at c.in-Ok.ensures.found) left.answers)

pub returns-in-Err : goal.returns-in-Err
returns-in-Err c =
    let setup = c.args.setup.now in
    refusal-is (IsCountOfGiven setup.test.now setup.protocol setup.config c.args.json c.args.text.now)
    (c.in-Err.fault ≢ faults.NoMemory) c.refused_choices.result
    (choices_refusal c.in-Err.fault) Refused c.refused_choices.ensures.says c.refused_choices.ensures.real
    (λ real. refused c.in-Err.fault (rw c.cores.ensures.value at (c.in-Err.ensures.refused real)))
