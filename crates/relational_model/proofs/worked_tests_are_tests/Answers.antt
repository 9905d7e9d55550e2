use Rattle.relational_model.proofs.Vocabulary.{rules}
use Rattle.relational_model.proofs.worked_tests_are_tests.Goals as goal

pub returns-clause-sb : goal.returns-clause-sb
returns-clause-sb c = search rules

pub returns-clause-n6 : goal.returns-clause-n6
returns-clause-n6 c = search rules

pub returns-clause-fenced : goal.returns-clause-fenced
returns-clause-fenced c = search rules

pub returns-clause-exchanged : goal.returns-clause-exchanged
returns-clause-exchanged c = search rules

pub returns-clause-passing : goal.returns-clause-passing
returns-clause-passing c = search rules

pub returns-clause-buffering : goal.returns-clause-buffering
returns-clause-buffering c = search rules

pub returns-clause-independent : goal.returns-clause-independent
returns-clause-independent c = search rules

pub returns-clause-between : goal.returns-clause-between
returns-clause-between c = search rules

pub returns-clause-unseen : goal.returns-clause-unseen
returns-clause-unseen c = search rules
