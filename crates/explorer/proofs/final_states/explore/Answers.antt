use Rattle.explorer.proofs.Allowing.{finals-tso, finals-sequential}
use Rattle.explorer.proofs.final_states.explore.Goals as goal

pub returns-in-Whole-clause-tso : goal.returns-in-Whole-clause-tso
returns-in-Whole-clause-tso c =
    finals-tso c.ends_are_what_tso_allows.ensures c.args.test.now c.args.depth c.args.hidden.now
    c.in_ok-met.met.final_states.items c.know_limits.ensures c.in_ok-met.ensures.reached
    (c.in_ok-met.ensures.complete c.in-Whole.is)

pub returns-in-Whole-clause-sequential : goal.returns-in-Whole-clause-sequential
returns-in-Whole-clause-sequential c =
    finals-sequential c.ends_are_what_tso_allows.ensures c.args.test.now c.args.depth c.args.hidden.now
    c.in_ok-met.met.final_states.items c.know_limits.ensures c.in_ok-met.ensures.reached
    (c.in_ok-met.ensures.complete c.in-Whole.is)

pub returns-in-Whole-clause-complete : goal.returns-in-Whole-clause-complete
returns-in-Whole-clause-complete c = c.in_ok-met.ensures.complete c.in-Whole.is

pub returns-in-Whole-clause-reached : goal.returns-in-Whole-clause-reached
returns-in-Whole-clause-reached c = c.in_ok-met.ensures.reached

pub returns-in-Whole-clause-once : goal.returns-in-Whole-clause-once
returns-in-Whole-clause-once c = c.in_ok-met.ensures.once

pub returns-in-Cut-clause-too_many : goal.returns-in-Cut-clause-too_many
returns-in-Cut-clause-too_many c = λ q. c.in_ok-met.ensures.kept c.args.limit (c.in_ok-met.ensures.more c.in-Cut.is)
