use Rattle.litmus_reader.proofs.Vocabulary.{arith, ne_eqb, nil_from_length, err_from_is_err_and}
use Rattle.litmus_reader.proofs.Squares.{square_here, square_further, square_missing, square_gap_fails}
use Rattle.litmus_reader.proofs.observed.after_square.Goals as goal

pub returns-in_err-at : goal.returns-in_err-at
returns-in_err-at c =
    let p = err_from_is_err_and c.from_residual.result c.from_residual.ensures.1 in
    rw (p.1, p.2) (square_gap_fails c.in_err-at.field-0.0 c.args.remaining c.loop-at.rest.now _ c.in_err-at.ensures.value c.loop-at.invariant)

pub returns-in_default : goal.returns-in_default
returns-in_default c =
    square_missing c.args.remaining c.loop-at.rest.now c.in_ok-at.at.now _ c.in_ok-at.ensures.value
    (nil_from_length c.in_ok-at.at.now (omega (arith, c.in_default.ensures.cases))) c.loop-at.invariant

pub returns-then-first-eq93 : goal.returns-then-first-eq93
returns-then-first-eq93 c =
    square_here c.args.remaining c.in-Some.first.now c.loop-at.rest.now c.in_ok-at.at.now c.in-Some.after.now _
    c.in_ok-at.ensures.value c.in-Some.ensures.cases.0 c.if-first-eq93.true c.loop-at.invariant

pub loop-at-preserved : goal.loop-at-preserved
loop-at-preserved c =
    square_further c.args.remaining c.in-Some.first.now c.loop-at.rest.now c.in_ok-at.at.now c.in-Some.after.now _
    c.in_ok-at.ensures.value c.in-Some.ensures.cases.0 (ne_eqb _ _ c.if-first-eq93.false)
    (omega (arith, c.in_ok-at.ensures.within, c.in-Some.ensures.cases.1)) c.loop-at.invariant
