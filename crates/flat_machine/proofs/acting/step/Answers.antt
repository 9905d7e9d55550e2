use Rattle.flat_machine.proofs.acting.step.Goals as goal

pub returns-in-Lock-clause-outcome : goal.returns-in-Lock-clause-outcome
returns-in-Lock-clause-outcome c = rw c.in-Lock.is (c.lock.ensures.outcome c.args.depth c.args.core.0)

pub returns-in-Lock-clause-after : goal.returns-in-Lock-clause-after
returns-in-Lock-clause-after c = rw c.in-Lock.is (c.lock.ensures.after c.args.depth c.args.core.0)

pub returns-in-Lock-clause-memory : goal.returns-in-Lock-clause-memory
returns-in-Lock-clause-memory c = rw c.in-Lock.is (c.lock.ensures.memory c.args.depth c.args.core.0)
