use Rattle.told_reasons.proofs.ReasonTexts.{line-told}
use Rattle.told_reasons.proofs.ReasonData.{line-data}
use Rattle.told_reasons.proofs.lines_are_of_one_format.Goals as goal

pub returns-clause-texts : goal.returns-clause-texts
returns-clause-texts c = line-told

pub returns-clause-objects : goal.returns-clause-objects
returns-clause-objects c = line-data
