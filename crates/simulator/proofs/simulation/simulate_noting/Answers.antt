use Rattle.machine_runs.proofs.Vocabulary.{table_of, run_under}
use Rattle.machine_runs.proofs.SimulationLemmas.{choices-counted, counted, all-order, ended-on-atomic, ended-on-either}
use Rattle.simulator.proofs.simulation.simulate_noting.Goals as goal

pub returns-clause-counting : goal.returns-clause-counting
returns-clause-counting c = λ atomic.
    counted (table_of c.args.protocol) c.args.config c.args.test.now c.args.choices.now c.in_ok-ending.ending atomic
    (choices-counted c.args.test.now c.args.config.depth c.args.choices.now c.runs_are_counted.ensures.buffered c.runs_are_counted.ensures.unbuffered)
    c.in_ok-ending.ensures.ending

pub returns-clause-unbuffered : goal.returns-clause-unbuffered
returns-clause-unbuffered c = λ none.
    all-order c.args.test.now (run_under c.args.test.now c.args.protocol c.args.config c.args.choices.now) c.in_ok-ending.ending
    (c.ended_runs_of_machines_are_executions.ensures.unbuffered (table_of c.args.protocol) c.args.config c.args.test.now
    c.args.choices.now none c.know_limits.ensures c.in_ok-ending.ensures.answers)
    c.in_ok-ending.ensures.ending

pub returns-clause-fair : goal.returns-clause-fair
returns-clause-fair c = λ atomic cut.
    ended-on-atomic (table_of c.args.protocol) c.args.config c.args.test.now c.args.choices.now c.in_ok-ending.ending atomic
    (c.fair_rounds_end.ensures c.args.test.now c.args.config.depth c.args.choices.now cut) c.in_ok-ending.ensures.ending

pub returns-clause-fair_on_either_bus : goal.returns-clause-fair_on_either_bus
returns-clause-fair_on_either_bus c = λ cut.
    ended-on-either (table_of c.args.protocol) c.args.config c.args.test.now c.args.choices.now c.in_ok-ending.ending
    c.atomic_runs_are_flat_runs.ensures
    (c.fair_rounds_end_on_either_bus.ensures c.args.config.bus c.args.test.now c.args.config.depth) cut c.in_ok-ending.ensures.ending
