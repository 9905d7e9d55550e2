use Rattle.machine_core.proofs.Vocabulary.{◌≡◌, ◌<◌, length, slice_index_or, ap, ◌∙◌, subst, sym, All, arith, core_states, at_start, IsCore}
use Rattle.machine_core.proofs.Overwriting.{written, written-next}
use Rattle.machine_core.proofs.Beginning.{begun, started-begun, depth-begun}
use Rattle.machine_core.proofs.restarting.restart_cores.Goals as goal

pub loop-core-preserved : goal.loop-core-preserved
loop-core-preserved c =
    let i = c.loop-core.core in
    let ps = c.loop-core.processors in
    written-next (begun c.args.test.now.registers) i c.args.processors.now ps c.index-processors-core.result c.restart.new.self c.loop-core.invariant
    (let z : i < length ps = omega (arith, c.cores-core-end.ensures.value, c.requires, c.loop-core-test.true, c.loop-core.auto.processors) in z)
    (c.restart.ensures ∙ ap (λ r. at_start r (slice_index_or ps i c.index-processors-core.result)) c.initial_registers-registers.ensures)

pub returns-clause-states : goal.returns-clause-states
returns-clause-states c =
    let ps = c.args.processors.now in
    let all : c.loop-core.core ≡ length ps = omega (arith, c.cores-core-end.ensures.value, c.requires, c.loop-core-test.false, c.loop-core.auto.core-end) in
    ap (core_states 0) (c.loop-core.invariant ∙ ap (λ n. written (begun c.args.test.now.registers) 0 n ps) all)
    ∙ started-begun c.args.test.now.registers 0 ps c.args.test.now.programs c.requires

pub returns-clause-depths : goal.returns-clause-depths
returns-clause-depths c = λ depth before locations each.
    let ps = c.args.processors.now in
    let all : c.loop-core.core ≡ length ps = omega (arith, c.cores-core-end.ensures.value, c.requires, c.loop-core-test.false, c.loop-core.auto.core-end) in
    subst (λ qs. All (IsCore depth locations) qs) (sym (c.loop-core.invariant ∙ ap (λ n. written (begun c.args.test.now.registers) 0 n ps) all))
    (depth-begun c.args.test.now.registers depth before locations 0 ps each)
