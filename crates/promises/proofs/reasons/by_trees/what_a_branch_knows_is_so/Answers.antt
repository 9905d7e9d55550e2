use Rattle.promises.proofs.reasons.by_trees.what_a_branch_knows_is_so.Goals as goal

pub returns-clause-events : goal.returns-clause-events
returns-clause-events c = c.known_values_are_right.ensures.events

pub returns-clause-registers : goal.returns-clause-registers
returns-clause-registers c = c.known_values_are_right.ensures.registers

pub returns-clause-words : goal.returns-clause-words
returns-clause-words c = c.known_values_are_right.ensures.words
