use Rattle.tso_cli.proofs.Vocabulary.{string_bytes, subst, sym, AreReached, names_shown, PrintsOutcomes}
use Rattle.tso_cli.proofs.FoundOutcomes.{search-answers}
use Rattle.tso_cli.proofs.outcomes.found_answer.Goals as goal

pub outcomes_report-requires : goal.outcomes_report-requires
outcomes_report-requires c = subst (λ depth. AreReached c.args.test.now depth c.args.finals.now) (sym c.depth.ensures.value) c.requires.reached

pub returns : goal.returns
returns c =
    let t = c.args.test.now in
    let text = string_bytes c.in_ok-printed.printed.text in
    let claimed = c.in_ok-printed.printed.is_as_claimed in
    search-answers t c.args.search c.args.json c.args.assert claimed c.args.finals.now text c.of_verdict.result c.requires.reached c.requires.complete
    (subst (λ show. PrintsOutcomes t (names_shown show t) c.args.search.depth c.args.json c.args.finals.now text claimed) c.show.ensures
    (subst (λ depth. PrintsOutcomes t (names_shown c.show.result t) depth c.args.json c.args.finals.now text claimed)
    c.depth.ensures.value c.in_ok-printed.ensures))
    c.of_verdict.ensures
