use Rattle.promises.proofs.traces.step_laws.told_accesses_are_counted.Goals as goal

pub returns-clause-accesses : goal.returns-clause-accesses
returns-clause-accesses given = λ table c t choices core p1. (given.accesses_are_told.ensures.counts table c t choices core p1).accesses

pub returns-clause-forwards : goal.returns-clause-forwards
returns-clause-forwards given = λ table c t choices core p1. (given.accesses_are_told.ensures.counts table c t choices core p1).forwards

pub returns-clause-write_backs : goal.returns-clause-write_backs
returns-clause-write_backs given = λ table c t choices core p1. (given.accesses_are_told.ensures.counts table c t choices core p1).write_backs

pub returns-clause-flushes : goal.returns-clause-flushes
returns-clause-flushes given = λ table c t choices core p1. (given.accesses_are_told.ensures.counts table c t choices core p1).flushes

pub returns-clause-filled : goal.returns-clause-filled
returns-clause-filled c = λ kind. (c.accesses_are_told.ensures.protocols kind).filled

pub returns-clause-written : goal.returns-clause-written
returns-clause-written c = λ kind. (c.accesses_are_told.ensures.protocols kind).written
