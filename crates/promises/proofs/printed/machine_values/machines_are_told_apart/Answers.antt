use Rattle.promises.proofs.printed.machine_values.machines_are_told_apart.Goals as goal

pub returns : goal.returns
returns given = given.values_of_machines_tell_them.ensures
