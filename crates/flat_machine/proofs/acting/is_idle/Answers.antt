use Rattle.flat_machine.proofs.Vocabulary.{◌≡◌, ◌<◌, ◌≤◌, ℕ, slice_get, slice_index_or, length, arith, ap, sym, ◌∙◌, nat_tests, program_of}
use Rattle.flat_machine.proofs.Vocabulary.{core_of, state_of_snapshot, Processor}
use Rattle.flat_machine.proofs.Choosing.{core-at, beyond, ends}
use Rattle.flat_machine.proofs.acting.is_idle.Goals as goal

pub returns-in-Step : goal.returns-in-Step
returns-in-Step c = λ q depth.
    let k : ℕ = c.in-Step.core.0 in
    let m = c.requires.cores in
    let r = rw c.in-Step.is at c.requires.chosen in
    let l : k < length c.args.state.now.cores.items = omega (arith, r, m) in
    let p : Processor = c.index.result.now in
    let h1 = c.index.ensures in
    let h2 = c.from.ensures in
    let e : p ≡ slice_index_or c.args.state.now.cores.items k p = cc in
    let h4 = c.from-place.ensures in
    let at-end : length c.program.result.now ≤ c.from-place.result = grind (arith, nat_tests, q) in
    let place-is : (core_of (state_of_snapshot c.args.state.now) k).place ≡ c.from-place.result =
    ap (λ z. z.place) (core-at c.args.test.now depth c.args.state.now k p l e) ∙ sym h4 in
    rw c.in-Step.is (sym (ends c.args.test.now depth (state_of_snapshot c.args.state.now) k
    (ap (λ z. slice_get (program_of c.args.test.now k) z) place-is ∙ ap (λ z. slice_get z c.from-place.result) (sym c.program.ensures.value)
    ∙ beyond c.program.result.now c.from-place.result at-end)))
