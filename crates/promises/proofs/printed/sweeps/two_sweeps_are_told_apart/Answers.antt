use Rattle.promises.proofs.printed.sweeps.two_sweeps_are_told_apart.Goals as goal

pub returns : goal.returns
returns c = c.sweeps_tell_their_counts.ensures
