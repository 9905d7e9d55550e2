use Rattle.promises.proofs.traces.cores_and_caches.a_line_gives_way.Goals as goal

pub returns-clause-accessed : goal.returns-clause-accessed
returns-clause-accessed c = λ m choice line gave. gave.accessed

pub returns-clause-absent : goal.returns-clause-absent
returns-clause-absent c = λ m choice line gave. gave.absent

pub returns-clause-last : goal.returns-clause-last
returns-clause-last c = λ m choice line gave. gave.last

pub returns-clause-dirty : goal.returns-clause-dirty
returns-clause-dirty c = λ m choice line gave. gave.dirty
