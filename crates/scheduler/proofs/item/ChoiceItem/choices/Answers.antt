use Rattle.scheduler.proofs.Vocabulary.{◌∙◌, ap, length, made_of}
use Rattle.scheduler.proofs.Found.{length_seeded}
use Rattle.scheduler.proofs.item.ChoiceItem.choices.Goals as goal

pub returns-in-Seeded : goal.returns-in-Seeded
returns-in-Seeded c = λ cores. ap (λ item. length (made_of cores item)) c.in-Seeded.is ∙ length_seeded cores c.in-Seeded.field-0 c.in-Seeded.count
