use Rattle.promises.proofs.printed.lines_by_hand.a_false_line_lists_all_that_is_left.Goals as goal

pub returns : goal.returns
returns c = λ t k facts allowed met reads asked.
    c.listed_values_are_all_left.ensures t k facts (record { allowed = allowed; met = met; reads = reads; asked = asked })
