use Rattle.printed_laws.proofs.lines.RefutingLines.{printed-lines-refute}
use Rattle.printed_laws.proofs.lines.ReadByHand.{refuting-lines-are-refutations}
use Rattle.printed_laws.proofs.reasons.printed_lines_refute.Goals as goal

pub returns-clause-printed : goal.returns-clause-printed
returns-clause-printed c = printed-lines-refute

pub returns-clause-read : goal.returns-clause-read
returns-clause-read c = refuting-lines-are-refutations
