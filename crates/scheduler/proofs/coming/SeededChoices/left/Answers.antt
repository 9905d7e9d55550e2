use Rattle.scheduler.proofs.Vocabulary.{sym, choice_of_word}
use Rattle.scheduler.proofs.Generated.{length-words}
use Rattle.scheduler.proofs.coming.SeededChoices.left.Goals as goal

pub returns : goal.returns
returns c = sym (length-words (choice_of_word c.args.self.now.cores) c.args.self.now.left c.args.self.now.generator)
