use Rattle.std.proofs.Common.{◌≤◌, refl, subst}
use Rattle.tso_terms.specs.ProgramEntries.{made_from}
use Rattle.execution_check.proofs.Growing.{all-made}
use Rattle.execution_check.proofs.final_state.entries_made.Goals as goal

pub returns : goal.returns
returns c =
    let t = c.args.test.now in
    all-made (λ ps. made_from c.loop-number.number ps t.registers c.args.order.now) refl t.programs c.loop-number.number c.loop-number.made.items _
    (subst (λ n. n ≤ c.loop-number.number) c.cores-number-end.ensures.value c.loop-number-test.false) c.loop-number.invariant
