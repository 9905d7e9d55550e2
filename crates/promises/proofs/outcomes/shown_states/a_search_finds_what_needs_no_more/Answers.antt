use Rattle.promises.proofs.NoMore.{found-allowed}
use Rattle.promises.proofs.outcomes.shown_states.a_search_finds_what_needs_no_more.Goals as goal

pub returns : goal.returns
returns c =
    found-allowed c.explore.result c.args.test.now c.args.depth c.args.hidden.now c.ends_are_what_tso_allows.ensures
    c.know_limits.ensures c.explore.ensures.reached c.explore.ensures.complete
