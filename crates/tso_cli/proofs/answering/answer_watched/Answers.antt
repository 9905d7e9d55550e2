use Rattle.std.specs.Prelude.{Some}
use Rattle.tso_cli.proofs.Vocabulary.{IfOk, string_bytes, rules, IsAnswer, Headline}
use Rattle.tso_cli.proofs.answering.answer_watched.Goals as goal
use Rattle.tso_cli.proofs.AnswerLemmas.{answer-means}

pub returns-in-Run-clause-headline : goal.returns-in-Run-clause-headline
returns-in-Run-clause-headline g c =
    let s = c.args.settings.now in
    let input = c.args.input.now in
    let exact : IfOk c.judged_answer.result (λ a. IsAnswer s (Some input) (string_bytes a.text) a.status) = search rules in
    answer-means (IsAnswer s (Some input)) (λ out status. Headline s (Some input) out) c.judged_answer.result
    (λ out status. c.answers_meet_the_headline.ensures s (Some input) out status c.know_limits.ensures) exact
