use Rattle.promises.proofs.commands.why.a_refutation_and_an_execution_are_never_both_printed.Goals as goal

pub returns : goal.returns
returns c = λ t model json again out other never allowed. never.executions allowed.order allowed.execution allowed.holds
