use Rattle.promises.proofs.printed.lines_by_hand.a_text_of_a_format_tells_its_value.Goals as goal

pub returns-clause-value : goal.returns-clause-value
returns-clause-value c = λ f ways x y rest other clear first second begun again same.
    (c.texts_tell_their_values.ensures f ways x y rest other clear first second begun again same).0

pub returns-clause-behind : goal.returns-clause-behind
returns-clause-behind c = λ f ways x y rest other clear first second begun again same.
    (c.texts_tell_their_values.ensures f ways x y rest other clear first second begun again same).1

pub returns-clause-floats : goal.returns-clause-floats
returns-clause-floats c = c.data_has_no_float.ensures
