use Rattle.promises.proofs.machine.both_buses.atomic_runs_hold_no_bus.Goals as goal

pub returns-clause-atomic : goal.returns-clause-atomic
returns-clause-atomic c = c.atomic_runs_are_flat_runs.ensures.atomic

pub returns-clause-free : goal.returns-clause-free
returns-clause-free c = c.atomic_runs_are_flat_runs.ensures.free

pub returns-clause-fit : goal.returns-clause-fit
returns-clause-fit c = c.atomic_runs_are_flat_runs.ensures.fit

pub returns-clause-together : goal.returns-clause-together
returns-clause-together c = c.atomic_runs_are_flat_runs.ensures.together
