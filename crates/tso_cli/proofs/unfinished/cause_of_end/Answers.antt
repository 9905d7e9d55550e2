use Rattle.tso_cli.proofs.Sighted.{names-exist}
use Rattle.tso_cli.proofs.unfinished.cause_of_end.Goals as goal

pub first_met-requires : goal.first_met-requires
first_met-requires c =
    names-exist c.args.test.now c.args.search.depth c.args.finals.now c.in-Some.cond.now
    c.ended_runs_are_executions.ensures c.know_limits.ensures c.in-Some.ensures.value c.requires
