use Rattle.promises.proofs.models.branches.notes_change_nothing_elsewhere.Goals as goal

pub returns-clause-noted : goal.returns-clause-noted
returns-clause-noted c = c.notes_add_nothing.ensures.noted

pub returns-clause-unnoted : goal.returns-clause-unnoted
returns-clause-unnoted c = c.notes_add_nothing.ensures.unnoted
