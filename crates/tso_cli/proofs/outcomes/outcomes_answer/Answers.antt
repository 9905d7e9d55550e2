use Rattle.tso_cli.proofs.Vocabulary.{ap, subst, sym, AreReached, HasMoreStates, names_shown}
use Rattle.tso_cli.proofs.FoundOutcomes.{search-shows}
use Rattle.tso_cli.proofs.outcomes.outcomes_answer.Goals as goal

pub found_answer-requires-clause-reached : goal.found_answer-requires-clause-reached
found_answer-requires-clause-reached g c =
    subst (λ finals. AreReached c.args.test.now c.args.search.depth finals) (sym c.deref-in-Whole.ensures.value)
    (subst (λ depth. AreReached c.args.test.now depth c.in_ok-met.met.final_states.items) c.depth.ensures.value c.in_ok-met.ensures.reached)

pub found_answer-requires-clause-complete : goal.found_answer-requires-clause-complete
found_answer-requires-clause-complete g c =
    let t = c.args.test.now in
    search-shows t (names_shown c.args.search.show t) (names_shown c.show.result t) c.depth.result c.args.search.depth
    c.deref.result.now c.in_ok-hidden.hidden.items
    c.in_ok-met.met.final_states.items c.deref-in-Whole.result.now (c.in_ok-met.ensures.complete c.in-Whole.is) c.in_ok-hidden.ensures.not_shown
    (ap (λ show. names_shown show t) c.show.ensures) c.depth.ensures.value c.deref.ensures.value c.deref-in-Whole.ensures.value

pub unfinished_answer-requires-clause-reached : goal.unfinished_answer-requires-clause-reached
unfinished_answer-requires-clause-reached g c =
    subst (λ finals. AreReached c.args.test.now c.args.search.depth finals) (sym c.deref-in-Cut.ensures.value)
    (subst (λ depth. AreReached c.args.test.now depth c.in_ok-met.met.final_states.items) c.depth.ensures.value c.in_ok-met.ensures.reached)

pub unfinished_answer-requires-clause-more : goal.unfinished_answer-requires-clause-more
unfinished_answer-requires-clause-more g c =
    subst (λ states. HasMoreStates c.args.test.now c.args.search.depth states) c.states.ensures
    (subst (λ depth. HasMoreStates c.args.test.now depth c.states.result) c.depth.ensures.value
    (c.in_ok-met.ensures.kept c.states.result (c.in_ok-met.ensures.more c.in-Cut.is)))
