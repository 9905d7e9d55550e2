use Rattle.promises.proofs.printed.verdicts.why_and_outcomes_agree.Goals as goal

pub returns : goal.returns
returns c = c.both_commands_print_one_verdict.ensures
