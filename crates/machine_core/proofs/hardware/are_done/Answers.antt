use Rattle.machine_core.proofs.Vocabulary.{◌<◌, length, sym, ◌∙◌, arith}
use Rattle.machine_core.proofs.DoneCores.{done-next, none-left}
use Rattle.machine_core.proofs.hardware.are_done.Goals as goal

pub loop-core-preserved : goal.loop-core-preserved
loop-core-preserved g c =
    let within : c.loop-core.core < length c.args.test.now.programs = omega (arith, c.loop-core-test.true, c.cores-core-end.ensures.value) in
    c.loop-core.invariant
    ∙ done-next c.loop-core.core c.args.test.now.programs c.program.result.now c.args.hardware.now.processors.items
    c.index.result.now _ within (omega (arith, within, c.requires))
    c.program.ensures.value c.index.ensures (c.if-not-is_done.ensures c.loop-core.core)

pub returns : goal.returns
returns g c =
    none-left c.loop-core.core c.args.test.now.programs c.args.hardware.now.processors.items
    (omega (arith, c.loop-core-test.false, c.cores-core-end.ensures.value, c.requires))
    ∙ sym c.loop-core.invariant

pub returns-then-not-is_done : goal.returns-then-not-is_done
returns-then-not-is_done g c =
    let within : c.loop-core.core < length c.args.test.now.programs = omega (arith, c.loop-core-test.true, c.cores-core-end.ensures.value) in
    sym (c.loop-core.invariant
    ∙ done-next c.loop-core.core c.args.test.now.programs c.program.result.now c.args.hardware.now.processors.items
    c.index.result.now _ within (omega (arith, within, c.requires))
    c.program.ensures.value c.index.ensures (c.if-not-is_done.ensures c.loop-core.core))
