use Rattle.promises.proofs.printed.executions.a_printed_execution_is_a_candidate_of_its_order.Goals as goal

pub returns : goal.returns
returns c = λ json model t order choices out shows. (shows.candidate, shows.of_order, shows.printed)
