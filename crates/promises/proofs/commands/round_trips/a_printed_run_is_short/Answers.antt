use Rattle.promises.proofs.commands.round_trips.a_printed_run_is_short.Goals as goal

pub returns : goal.returns
returns c = c.printed_runs_are_short.ensures
