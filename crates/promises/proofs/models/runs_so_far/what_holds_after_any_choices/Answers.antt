use Rattle.promises.proofs.models.runs_so_far.what_holds_after_any_choices.Goals as goal

pub returns-clause-in_each_state : goal.returns-clause-in_each_state
returns-clause-in_each_state c = c.what_holds_so_far.ensures.in_each_state

pub returns-clause-after_choices : goal.returns-clause-after_choices
returns-clause-after_choices c = c.what_holds_so_far.ensures.after_choices
