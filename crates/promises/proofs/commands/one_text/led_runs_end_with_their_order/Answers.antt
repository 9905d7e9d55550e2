use Rattle.promises.proofs.commands.one_text.led_runs_end_with_their_order.Goals as goal

pub returns-clause-led : goal.returns-clause-led
returns-clause-led c = λ t depth choices order ending p1 p2. (c.led_simulations_end.ensures.led t depth choices order ending p1 p2)

pub returns-clause-along : goal.returns-clause-along
returns-clause-along c = λ t depth order ending p1 p2 p3 p4. (c.led_simulations_end.ensures.along t depth order ending p1 p2 p3 p4)

pub returns-clause-tests : goal.returns-clause-tests
returns-clause-tests given = λ t kind c r out answer status p1 p2 p3 p4. (given.printed_runs_are_valid.ensures.tests t kind c r out answer status p1 p2 p3 p4)

pub returns-clause-inputs : goal.returns-clause-inputs
returns-clause-inputs given = λ kind c input out answer status p1 p2 p3 p4.
    (given.printed_runs_are_valid.ensures.inputs kind c input out answer status p1 p2 p3 p4)
