use Rattle.tso_cli.proofs.told_run.write_left.Goals as goal

pub returns-in_ok-write-in-Unfinished : goal.returns-in_ok-write-in-Unfinished
returns-in_ok-write-in-Unfinished c = rw c.in-Unfinished.is c.in_ok-write-in-Unfinished.ensures.bytes
