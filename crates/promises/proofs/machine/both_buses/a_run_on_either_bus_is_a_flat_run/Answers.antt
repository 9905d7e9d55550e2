use Rattle.promises.proofs.machine.both_buses.a_run_on_either_bus_is_a_flat_run.Goals as goal

pub returns-clause-cores : goal.returns-clause-cores
returns-clause-cores c = λ bus t depth attempts r said. said.cores

pub returns-clause-ended : goal.returns-clause-ended
returns-clause-ended c = λ bus t depth attempts r said. said.ended

pub returns-clause-state : goal.returns-clause-state
returns-clause-state c = λ bus t depth attempts r said. said.state

pub returns-clause-commits : goal.returns-clause-commits
returns-clause-commits c = λ bus t depth attempts r said. said.commits

pub returns-clause-used : goal.returns-clause-used
returns-clause-used c = λ bus t depth attempts r said. said.used

pub returns-clause-stalled : goal.returns-clause-stalled
returns-clause-stalled c = λ bus t depth attempts r said. said.stalled

pub returns-clause-unused : goal.returns-clause-unused
returns-clause-unused c = λ bus t depth attempts r said. said.unused
