use Rattle.scheduler.proofs.Whole.{is_decided}
use Rattle.scheduler.proofs.choice_texts.texts_are_decided.Goals as goal

pub returns : goal.returns
returns c = λ cores text some. is_decided cores text some
