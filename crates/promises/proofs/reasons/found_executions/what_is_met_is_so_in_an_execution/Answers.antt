use Rattle.promises.proofs.reasons.found_executions.what_is_met_is_so_in_an_execution.Goals as goal

pub returns : goal.returns
returns c = λ model t claim order met. (met.execution, met.holds)
