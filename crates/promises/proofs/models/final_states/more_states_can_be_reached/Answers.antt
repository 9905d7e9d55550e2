use Rattle.promises.proofs.models.final_states.more_states_can_be_reached.Goals as goal

pub returns-clause-reachable : goal.returns-clause-reachable
returns-clause-reachable c = λ t depth limit said. said.reachable

pub returns-clause-distinct : goal.returns-clause-distinct
returns-clause-distinct c = λ t depth limit said. said.distinct

pub returns-clause-more : goal.returns-clause-more
returns-clause-more c = λ t depth limit said. said.more

pub returns-clause-cores : goal.returns-clause-cores
returns-clause-cores c = λ t depth state said. said.cores

pub returns-clause-state_is : goal.returns-clause-state_is
returns-clause-state_is c = λ t depth state said. said.state_is
