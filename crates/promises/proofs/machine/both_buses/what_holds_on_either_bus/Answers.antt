use Rattle.promises.proofs.machine.both_buses.what_holds_on_either_bus.Goals as goal

pub returns-clause-so_far : goal.returns-clause-so_far
returns-clause-so_far c = c.what_holds_so_far_on_either_bus.ensures.so_far

pub returns-clause-free : goal.returns-clause-free
returns-clause-free c = c.what_holds_so_far_on_either_bus.ensures.free
