use Rattle.scheduler.proofs.PrintedWords.{printed-spells}
use Rattle.scheduler.proofs.choice_texts.printed_choices_are_spelled.Goals as goal

pub returns : goal.returns
returns c = printed-spells
