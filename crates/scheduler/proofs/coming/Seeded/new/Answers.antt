use Rattle.scheduler.proofs.Vocabulary.{generator, drawn_words}
use Rattle.scheduler.proofs.Cores.{words-exist}
use Rattle.scheduler.proofs.coming.Seeded.new.Goals as goal

pub returns-clause-cores : goal.returns-clause-cores
returns-clause-cores c = words-exist c.args.cores (drawn_words c.args.count (generator c.args.seed)) c.requires
