use Rattle.std.proofs.Common.{refl}
use Rattle.branch_laws.proofs.WorkedTests.{try-lock-tests, exchange-tests, counter-tests, counter-rounds, message-tests, message-shows}
use Rattle.branch_laws.proofs.WorkedTests.{message-own, spins-alike}
use Rattle.branch_laws.proofs.worked.branch_premises_are_met.Goals as goal

pub returns-clause-lock_tests : goal.returns-clause-lock_tests
returns-clause-lock_tests c = try-lock-tests

pub returns-clause-exchange_tests : goal.returns-clause-exchange_tests
returns-clause-exchange_tests c = exchange-tests

pub returns-clause-counter_tests : goal.returns-clause-counter_tests
returns-clause-counter_tests c = counter-tests

pub returns-clause-message_tests : goal.returns-clause-message_tests
returns-clause-message_tests c = message-tests

pub returns-clause-lock_round_of_y : goal.returns-clause-lock_round_of_y
returns-clause-lock_round_of_y c = refl

pub returns-clause-counter_round_of_x : goal.returns-clause-counter_round_of_x
returns-clause-counter_round_of_x c = refl

pub returns-clause-counter_rounds : goal.returns-clause-counter_rounds
returns-clause-counter_rounds c = counter-rounds

pub returns-clause-last_round : goal.returns-clause-last_round
returns-clause-last_round c = spins-alike

pub returns-clause-keeps_show : goal.returns-clause-keeps_show
returns-clause-keeps_show c = message-shows

pub returns-clause-keeps_are_own : goal.returns-clause-keeps_are_own
returns-clause-keeps_are_own c = message-own
