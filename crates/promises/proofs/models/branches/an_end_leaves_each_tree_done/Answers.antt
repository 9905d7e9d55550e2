use Rattle.promises.proofs.models.branches.an_end_leaves_each_tree_done.Goals as goal

pub returns-clause-cores : goal.returns-clause-cores
returns-clause-cores c = λ b depth outputs memory e. e.exist

pub returns-clause-count : goal.returns-clause-count
returns-clause-count c = λ b depth outputs memory e. e.count

pub returns-clause-done : goal.returns-clause-done
returns-clause-done c = λ b depth outputs memory e k l. e.done k l

pub returns-clause-memory : goal.returns-clause-memory
returns-clause-memory c = λ b depth outputs memory e. e.memory_is
