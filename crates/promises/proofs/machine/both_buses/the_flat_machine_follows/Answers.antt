use Rattle.promises.proofs.machine.both_buses.the_flat_machine_follows.Goals as goal

pub returns-clause-possible : goal.returns-clause-possible
returns-clause-possible c = λ bus t depth commits state said. said.possible

pub returns-clause-together : goal.returns-clause-together
returns-clause-together c = λ bus t depth commits state said. said.together

pub returns-clause-pairs : goal.returns-clause-pairs
returns-clause-pairs c = λ bus t depth commits state said. said.pairs

pub returns-clause-holder : goal.returns-clause-holder
returns-clause-holder c = λ bus t depth commits state said. said.holder
