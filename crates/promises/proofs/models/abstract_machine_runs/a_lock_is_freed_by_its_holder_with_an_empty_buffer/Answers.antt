use Rattle.promises.proofs.models.abstract_machine_runs.a_lock_is_freed_by_its_holder_with_an_empty_buffer.Goals as goal

pub returns-clause-holder : goal.returns-clause-holder
returns-clause-holder c = λ m p h o said. said.holder

pub returns-clause-drained : goal.returns-clause-drained
returns-clause-drained c = λ m p h o said. said.drained

pub returns-clause-free : goal.returns-clause-free
returns-clause-free c = λ m p h o said. said.free
