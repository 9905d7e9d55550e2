use Rattle.promises.proofs.machine.both_buses.hits_are_those_that_are_told.Goals as goal

pub returns-clause-loads : goal.returns-clause-loads
returns-clause-loads c = c.hits_are_told_beforehand.ensures.loads

pub returns-clause-writes : goal.returns-clause-writes
returns-clause-writes c = c.hits_are_told_beforehand.ensures.writes

pub returns-clause-loads_in_halves : goal.returns-clause-loads_in_halves
returns-clause-loads_in_halves c = c.hits_are_told_beforehand.ensures.loads_in_halves

pub returns-clause-writes_in_halves : goal.returns-clause-writes_in_halves
returns-clause-writes_in_halves c = c.hits_are_told_beforehand.ensures.writes_in_halves
