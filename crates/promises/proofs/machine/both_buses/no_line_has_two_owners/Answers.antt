use Rattle.promises.proofs.machine.both_buses.no_line_has_two_owners.Goals as goal

pub returns : goal.returns
returns c = c.one_owner_at_most.ensures
