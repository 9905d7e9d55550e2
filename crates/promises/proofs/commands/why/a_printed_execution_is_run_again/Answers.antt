use Rattle.promises.proofs.commands.why.a_printed_execution_is_run_again.Goals as goal

pub returns-clause-printed : goal.returns-clause-printed
returns-clause-printed c = λ t kind config json order out said. said.printed

pub returns-clause-reached : goal.returns-clause-reached
returns-clause-reached c = λ t kind config json order out said. said.reached

pub returns-clause-stalled : goal.returns-clause-stalled
returns-clause-stalled c = λ t kind config json order out said. said.stalled

pub returns-clause-unused : goal.returns-clause-unused
returns-clause-unused c = λ t kind config json order out said. said.unused
