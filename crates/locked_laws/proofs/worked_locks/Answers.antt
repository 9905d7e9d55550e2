use Rattle.locked_laws.proofs.Worked.{not-both, counts-two}
use Rattle.locked_laws.proofs.worked_locks.Goals as goal

pub returns-clause-exclusion : goal.returns-clause-exclusion
returns-clause-exclusion c = not-both c.no_two_read_one_source.ensures

pub returns-clause-count : goal.returns-clause-count
returns-clause-count c = counts-two c.words_add_up.ensures
