use Rattle.std.proofs.Common.{◌≤◌, refl, subst}
use Rattle.tso_terms.specs.FinalState.{registers_from}
use Rattle.execution_check.proofs.Growing.{all-made}
use Rattle.execution_check.proofs.final_state.registers_left.Goals as goal

pub returns : goal.returns
returns c =
    let t = c.args.test.now in
    all-made (λ ps. registers_from c.loop-number.number ps t.registers c.args.order.now) refl t.programs c.loop-number.number c.loop-number.left.items _
    (subst (λ n. n ≤ c.loop-number.number) c.cores-number-end.ensures.value c.loop-number-test.false) c.loop-number.invariant
