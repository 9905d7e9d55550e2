use Rattle.promises.proofs.models.branches.worked_branches_meet_the_premises.Goals as goal

pub returns-clause-lock_tests : goal.returns-clause-lock_tests
returns-clause-lock_tests c = c.branch_premises_are_met.ensures.lock_tests

pub returns-clause-exchange_tests : goal.returns-clause-exchange_tests
returns-clause-exchange_tests c = c.branch_premises_are_met.ensures.exchange_tests

pub returns-clause-counter_tests : goal.returns-clause-counter_tests
returns-clause-counter_tests c = c.branch_premises_are_met.ensures.counter_tests

pub returns-clause-message_tests : goal.returns-clause-message_tests
returns-clause-message_tests c = c.branch_premises_are_met.ensures.message_tests

pub returns-clause-lock_round_of_y : goal.returns-clause-lock_round_of_y
returns-clause-lock_round_of_y c = c.branch_premises_are_met.ensures.lock_round_of_y

pub returns-clause-counter_round_of_x : goal.returns-clause-counter_round_of_x
returns-clause-counter_round_of_x c = c.branch_premises_are_met.ensures.counter_round_of_x

pub returns-clause-counter_rounds : goal.returns-clause-counter_rounds
returns-clause-counter_rounds c = c.branch_premises_are_met.ensures.counter_rounds

pub returns-clause-last_round : goal.returns-clause-last_round
returns-clause-last_round c = c.branch_premises_are_met.ensures.last_round

pub returns-clause-keeps_show : goal.returns-clause-keeps_show
returns-clause-keeps_show c = c.branch_premises_are_met.ensures.keeps_show

pub returns-clause-keeps_are_own : goal.returns-clause-keeps_are_own
returns-clause-keeps_are_own c = c.branch_premises_are_met.ensures.keeps_are_own
