use Rattle.told_reasons.proofs.ToldLines.{reasons-told}
use Rattle.told_reasons.proofs.printed_reasons_are_told.Goals as goal

pub returns : goal.returns
returns c = reasons-told
