use Rattle.tso_cli.proofs.Vocabulary.{string_bytes, subst, names_shown, PrintsMet}
use Rattle.tso_cli.proofs.FoundOutcomes.{search-meets}
use Rattle.tso_cli.proofs.outcomes.unfinished_answer.Goals as goal

pub unfinished_report-requires : goal.unfinished_report-requires
unfinished_report-requires c = (c.args.search.depth, c.requires.reached)

pub returns : goal.returns
returns c =
    let t = c.args.test.now in
    let text = string_bytes c.in_ok-printed.printed.text in
    let met = c.in_ok-printed.printed.is_met in
    search-meets t c.args.search c.args.json c.args.assert met c.args.finals.now text c.status_of_met.result c.requires.more c.requires.reached
    (subst (λ show. PrintsMet t (names_shown show t) c.args.search.states c.args.json c.args.finals.now text met) c.show.ensures
    (subst (λ states. PrintsMet t (names_shown c.show.result t) states c.args.json c.args.finals.now text met) c.states-limit.ensures c.in_ok-printed.ensures))
    c.status_of_met.ensures
