use Rattle.explorer.proofs.Vocabulary.{arith}
use Rattle.explorer.proofs.Mapping.{same-by-place}
use Rattle.explorer.proofs.alike.is_same_program.Goals as goal

pub returns : goal.returns
returns c = λ q.
    same-by-place c.args.program.now c.args.other.now c.if-program-other.false
    (λ i l. c.loop-place.invariant i (let m = c.loop-place-test.false in omega (arith, l, m)))
