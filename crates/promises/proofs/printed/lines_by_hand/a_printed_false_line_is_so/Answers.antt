use Rattle.promises.proofs.printed.lines_by_hand.a_printed_false_line_is_so.Goals as goal

pub returns : goal.returns
returns c = c.false_lines_are_so.ensures
