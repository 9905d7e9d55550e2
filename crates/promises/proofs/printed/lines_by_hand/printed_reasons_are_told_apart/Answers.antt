use Rattle.std.proofs.Common.{ap}
use Rattle.promises.proofs.printed.lines_by_hand.printed_reasons_are_told_apart.Goals as goal

pub returns-clause-lines : goal.returns-clause-lines
returns-clause-lines c = λ model other t u lines others first second fit fits few fewer same.
    ap (λ r. r.1.1.1.0) (c.printed_reasons_are_told.ensures model other t u lines others first second fit fits few fewer same)

pub returns-clause-asked : goal.returns-clause-asked
returns-clause-asked c = λ model other t u lines others first second fit fits few fewer same.
    ap (λ r. r.1.1.0) (c.printed_reasons_are_told.ensures model other t u lines others first second fit fits few fewer same)
