use Rattle.multiprocessor.proofs.Vocabulary.{rules}
use Rattle.multiprocessor.proofs.counts.tally_access.Goals as goal

pub returns-then-access : goal.returns-then-access
returns-then-access c = search rules

pub returns-else-access : goal.returns-else-access
returns-else-access c = search rules
