use Rattle.std.proofs.Common.{[], ◌∷◌}
use Rattle.branch_laws.specs.WorkedTests.{try_lock, compare_and_exchange, counter, message}
use Rattle.branch_laws.proofs.WorkedTests.{try-lock-tests, try-lock-reached, exchange-tests, exchanges-reached, counter-tests}
use Rattle.branch_laws.proofs.WorkedTests.{counter-reached, message-tests, message-reached}
use Rattle.branch_laws.proofs.worked.worked_branches.Goals as goal

pub returns-clause-lock_is_reached : goal.returns-clause-lock_is_reached
returns-clause-lock_is_reached c = try-lock-reached

pub returns-clause-lock : goal.returns-clause-lock
returns-clause-lock c = (c.tree_ends_are_the_outcomes.ensures try_lock ((1 ∷ []) ∷ ((0 ∷ []) ∷ [])) (1 ∷ (2 ∷ [])) try-lock-tests).0 try-lock-reached

pub returns-clause-exchange : goal.returns-clause-exchange
returns-clause-exchange c =
    (c.tree_ends_are_the_outcomes.ensures compare_and_exchange ((0 ∷ []) ∷ ((1 ∷ []) ∷ [])) (1 ∷ (0 ∷ [])) exchange-tests).0 exchanges-reached

pub returns-clause-counted : goal.returns-clause-counted
returns-clause-counted c = (c.tree_ends_are_the_outcomes.ensures counter ((0 ∷ []) ∷ ((1 ∷ []) ∷ [])) (2 ∷ (0 ∷ [])) counter-tests).0 counter-reached

pub returns-clause-message_is_read : goal.returns-clause-message_is_read
returns-clause-message_is_read c = (c.tree_ends_are_the_outcomes.ensures message ([] ∷ ((1 ∷ (1 ∷ [])) ∷ [])) (1 ∷ (1 ∷ [])) message-tests).0 message-reached
