use Rattle.promises.proofs.printed.trace_steps.traced_runs_are_told_apart.Goals as goal

pub returns-clause-line_steps : goal.returns-clause-line_steps
returns-clause-line_steps given = λ t kind c choices other p q r s same. (given.printed_traces_are_told.ensures.lines t kind c choices other p q r s same).steps

pub returns-clause-line_run : goal.returns-clause-line_run
returns-clause-line_run given = λ t kind c choices other p q r s same. (given.printed_traces_are_told.ensures.lines t kind c choices other p q r s same).run

pub returns-clause-json_steps : goal.returns-clause-json_steps
returns-clause-json_steps given = λ t kind c choices other p q r s same. (given.printed_traces_are_told.ensures.json t kind c choices other p q r s same).steps

pub returns-clause-json_run : goal.returns-clause-json_run
returns-clause-json_run given = λ t kind c choices other p q r s same. (given.printed_traces_are_told.ensures.json t kind c choices other p q r s same).run
