use Rattle.scheduler.proofs.Whole.{only_these, only_this}
use Rattle.scheduler.proofs.Vocabulary.{words_of_text}
use Rattle.scheduler.proofs.choices.read_choices.Goals as goal

pub returns-clause-only : goal.returns-clause-only
returns-clause-only c =
    only_these c.args.cores (words_of_text c.args.text.now) c.choices_of.result c.requires c.choices_of.ensures.found c.choices_of.ensures.refused

pub returns-clause-refuses : goal.returns-clause-refuses
returns-clause-refuses c =
    only_this c.args.cores (words_of_text c.args.text.now) c.choices_of.result c.requires c.choices_of.ensures.found c.choices_of.ensures.refused
