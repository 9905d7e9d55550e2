use Rattle.promises.proofs.printed.trace_steps.steps_are_told_apart.Goals as goal

pub returns-clause-lines : goal.returns-clause-lines
returns-clause-lines given = λ t words steps others rest other p q r e. (given.traces_tell_their_steps.ensures.lines t words steps others rest other p q r e).0

pub returns-clause-behind : goal.returns-clause-behind
returns-clause-behind given = λ t words steps others rest other p q r e. (given.traces_tell_their_steps.ensures.lines t words steps others rest other p q r e).1

pub returns-clause-object : goal.returns-clause-object
returns-clause-object given = λ t words s other u v after other_after p q r f g d e same.
    (given.traces_tell_their_steps.ensures.object t words s other u v after other_after p q r f g d e same).0

pub returns-clause-supplied : goal.returns-clause-supplied
returns-clause-supplied given = λ t words s other u v after other_after p q r f g d e same.
    (given.traces_tell_their_steps.ensures.object t words s other u v after other_after p q r f g d e same).1.0

pub returns-clause-after : goal.returns-clause-after
returns-clause-after given = λ t words s other u v after other_after p q r f g d e same.
    (given.traces_tell_their_steps.ensures.object t words s other u v after other_after p q r f g d e same).1.1

pub returns-clause-value : goal.returns-clause-value
returns-clause-value given = given.traces_tell_their_steps.ensures.json
