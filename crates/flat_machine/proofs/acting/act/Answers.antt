use Rattle.flat_machine.proofs.Vocabulary.{◌≡◌, ◌<◌, ℕ, slice_get, slice_index_or, length, arith, ap, sym, refl, ◌∙◌, effect_by, drain_of}
use Rattle.flat_machine.proofs.Vocabulary.{program_of, core_of, step, drain, core_of_processor, state_of_snapshot, Processor}
use Rattle.flat_machine.proofs.Choosing.{on-ok-2, core-at, draining, acted, beyond, ends, step-is}
use Rattle.flat_machine.proofs.acting.act.Goals as goal

pub returns-then-place-program-clause-after : goal.returns-then-place-program-clause-after
returns-then-place-program-clause-after c =
    let k : ℕ = c.in-Step.core.0 in
    let m = c.requires.cores in
    let r = rw c.in-Step.is at c.requires.chosen in
    let l : k < length c.args.state.now.cores.items = omega (arith, r, m) in
    let p : Processor = c.index.result.now in
    let h1 = c.index.ensures in
    let h2 = c.from.ensures in
    let q : p ≡ slice_index_or c.args.state.now.cores.items k p = cc in
    let g = c.program-program.ensures.value in
    let h4 = c.from-place.ensures in
    let h5 = c.if-place-program.true in
    let place-is : (core_of (state_of_snapshot c.args.state.now) k).place ≡ c.from-place.result =
    ap (λ z. z.place) (core-at c.args.test.now c.args.depth c.args.state.now k p l q) ∙ sym h4 in
    rw c.in-Step.is (ends c.args.test.now c.args.depth (state_of_snapshot c.args.state.now) k
    (ap (λ z. slice_get (program_of c.args.test.now k) z) place-is
    ∙ ap (λ z. slice_get z c.from-place.result) (sym g)
    ∙ beyond c.program-program.result.now c.from-place.result h5))

pub returns-else-place-program-clause-outcome : goal.returns-else-place-program-clause-outcome
returns-else-place-program-clause-outcome c =
    let k : ℕ = c.in-Step.core.0 in
    let m = c.requires.cores in
    let r = rw c.in-Step.is at c.requires.chosen in
    let l : k < length c.args.state.now.cores.items = omega (arith, r, m) in
    let h1 = c.index_mut-processor.ensures.value in
    let h2 = c.from-in-Step.ensures in
    let h7 = c.index.ensures in
    let h8 = c.from.ensures in
    let q : c.index_mut-processor.result.now ≡ slice_index_or c.args.state.now.cores.items k c.index_mut-processor.result.now = cc in
    let q2 : c.index.result.now ≡ slice_index_or c.args.state.now.cores.items k c.index.result.now = cc in
    let e =
    step-is c.args.test.now c.args.depth c.args.state.now k c.index_mut-processor.result.now c.index.result.now
    c.program-program.result.now c.from-place.result c.action-action.result _
    l q q2 c.program-program.ensures.value c.from-place.ensures c.if-place-program.false c.action-action.ensures in
    rw (c.in-Step.is, e) c.step.ensures.outcome

pub returns-else-place-program-clause-after : goal.returns-else-place-program-clause-after
returns-else-place-program-clause-after c =
    let k : ℕ = c.in-Step.core.0 in
    let m = c.requires.cores in
    let r = rw c.in-Step.is at c.requires.chosen in
    let l : k < length c.args.state.now.cores.items = omega (arith, r, m) in
    let h1 = c.index_mut-processor.ensures.value in
    let h2 = c.from-in-Step.ensures in
    let h7 = c.index.ensures in
    let h8 = c.from.ensures in
    let q : c.index_mut-processor.result.now ≡ slice_index_or c.args.state.now.cores.items k c.index_mut-processor.result.now = cc in
    let q2 : c.index.result.now ≡ slice_index_or c.args.state.now.cores.items k c.index.result.now = cc in
    let e =
    step-is c.args.test.now c.args.depth c.args.state.now k c.index_mut-processor.result.now c.index.result.now
    c.program-program.result.now c.from-place.result c.action-action.result _
    l q q2 c.program-program.ensures.value c.from-place.ensures c.if-place-program.false c.action-action.ensures in
    on-ok-2 c.step.result (λ u v. rw c.in-Step.is (acted c.args.test.now c.args.depth c.args.state.now k c.index_mut-processor.result.now l q (step k)
    (effect_by c.args.depth c.args.state.now.memory.items k c.action-action.result (core_of_processor c.index_mut-processor.result.now))
    _ _ c.step.new.processor refl e u v (rw h2 refl)))
    c.step.ensures.after c.step.ensures.memory

pub returns-in-Drain-clause-after : goal.returns-in-Drain-clause-after
returns-in-Drain-clause-after c =
    let k : ℕ = c.in-Drain.core.0 in
    let p : Processor = c.index_mut.result.now in
    let h1 = c.index_mut.ensures.value in
    let h2 = c.from-in-Drain.ensures in
    let q : p ≡ slice_index_or c.args.state.now.cores.items k p = cc in
    let m = c.requires.cores in
    let r = rw c.in-Drain.is at c.requires.chosen in
    let l : k < length c.args.state.now.cores.items = omega (arith, r, m) in
    rw c.in-Drain.is (acted c.args.test.now c.args.depth c.args.state.now k p l q (drain k) (drain_of (core_of_processor p)) _ _ c.drain.new.processor refl
    (draining c.args.test.now c.args.depth c.args.state.now k p l q) c.drain.ensures.after c.drain.ensures.memory (rw h2 refl))
