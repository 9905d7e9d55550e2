use Rattle.printed_laws.proofs.lines.ReasonHeads.{heads-tell}
use Rattle.printed_laws.proofs.reasons.reasons_tell_their_tests.Goals as goal

pub returns : goal.returns
returns c = heads-tell
