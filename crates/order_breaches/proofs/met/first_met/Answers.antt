use Rattle.order_breaches.proofs.Judging.{names-met-late, late-has-one, names-met-separated, names-met-read, names-met-none}
use Rattle.order_breaches.proofs.met.first_met.Goals as goal

pub returns-in-None-clause-none : goal.returns-in-None-clause-none
returns-in-None-clause-none g c t matched met _ =
    absurd (late-has-one t c.args.order.now.order c.args.met matched met c.in-Some-late.at c.in-Some-late.a c.in-Some-late.is (c.in-None.ensures.none (cc)))

pub returns-in-Some-first_overtaking-clause-found : goal.returns-in-Some-first_overtaking-clause-found
returns-in-Some-first_overtaking-clause-found g c t matched met =
    names-met-late t c.args.order.now.order c.args.met matched met c.in_default.is c.in-Some-late.at c.in-Some-late.a
    c.in-Some-late.is c.in-Some-first_overtaking.b c.in-Some-first_overtaking.ensures.found

pub returns-in-Some-separated-clause-found : goal.returns-in-Some-separated-clause-found
returns-in-Some-separated-clause-found g c t matched met =
    names-met-separated t c.args.order.now.order c.args.met matched met c.in_default.is c.in_default-late.is c.in-Some-separated.x c.in-Some-separated.is

pub returns-in-None-wrong_read-clause-none : goal.returns-in-None-wrong_read-clause-none
returns-in-None-wrong_read-clause-none g c t matched met _ =
    names-met-none t c.args.order.now.order c.args.met matched met c.in_default.is c.in_default-late.is c.in_default-separated.is c.in-None-wrong_read.is

pub returns-in-Some-wrong_read-clause-found : goal.returns-in-Some-wrong_read-clause-found
returns-in-Some-wrong_read-clause-found g c t matched met =
    names-met-read t c.args.order.now.order c.args.met matched met c.in_default.is c.in_default-late.is
    c.in_default-separated.is c.in-Some-wrong_read.x c.in-Some-wrong_read.due c.in-Some-wrong_read.is
