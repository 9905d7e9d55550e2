use Rattle.promises.proofs.printed.lines_by_hand.reasons_are_told_apart.Goals as goal

pub returns-clause-tests : goal.returns-clause-tests
returns-clause-tests c = λ model other t u lines others first second same.
    (c.reasons_tell_their_tests.ensures model other t u lines others first second same).test

pub returns-clause-models : goal.returns-clause-models
returns-clause-models c =
    λ model other t u lines others first second same. (c.reasons_tell_their_tests.ensures model other t u lines others first second same).model_named

pub returns-clause-leaves : goal.returns-clause-leaves
returns-clause-leaves c = λ model other t u lines others first second few fewer same.
    (c.reasons_tell_their_tests.ensures model other t u lines others first second same).leaves few fewer
