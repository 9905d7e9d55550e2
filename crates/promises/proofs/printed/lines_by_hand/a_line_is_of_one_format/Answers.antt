use Rattle.promises.proofs.printed.lines_by_hand.a_line_is_of_one_format.Goals as goal

pub returns-clause-texts : goal.returns-clause-texts
returns-clause-texts c = c.lines_are_of_one_format.ensures.texts

pub returns-clause-objects : goal.returns-clause-objects
returns-clause-objects c = c.lines_are_of_one_format.ensures.objects
