use Rattle.explorer.proofs.Vocabulary.{◌≡◌, ◌<◌, ◌∙◌, ℕ, ◌-◌, List, cleared, ap, sym, subst, refl, arith, length, map, slice_index_or, Some}
use Rattle.explorer.proofs.Vocabulary.{length-set, slice_get-get_or, program_of, hidden_of, forgotten_core, core_of_processor, AreDead}
use Rattle.explorer.proofs.Vocabulary.{Processor, map-at, map-set}
use Rattle.explorer.proofs.Ending.{length-map}
use Rattle.explorer.proofs.Forgets.{row-is, forgets-more, forgets-all}
use Rattle.explorer.proofs.forgetting.forget.Goals as goal

pub loop-core-init : goal.loop-core-init
loop-core-init c = record { count = refl; memory = refl; cores = refl }

-- the core with other registers
abbrev kept : Processor → List ℕ → Processor
kept p registers = record { place = p.place; registers = registers; pending = p.pending }

pub loop-core-preserved : goal.loop-core-preserved
loop-core-preserved c =
    let k : ℕ = c.loop-core.core in
    let a = c.loop-core-test.true in
    let b = c.cores-core-end.ensures.value in
    let n = c.loop-core.invariant.count in
    let m = c.requires.cores in
    let o = c.requires.plan.count in
    let at : c.from-at.result ≡ k = c.from-at.ensures in
    let within : k < length c.loop-core.state.cores.items = omega (arith, a, b, n, m) in
    let p : Processor = c.index_mut-processor.result.now in
    let h1 = c.index_mut-processor.ensures.value in
    let p-is : p ≡ slice_index_or c.loop-core.state.cores.items k p = cc in
    let h2 = c.index.ensures in
    let rows-is : c.index.result.now ≡ slice_index_or c.args.plan.now.dead.items k c.index.result.now = cc in
    let rows : AreDead (program_of c.args.plan.now.test.now k) (hidden_of c.args.plan.now.hidden.now k) c.index.result.now.items =
    c.requires.plan.each k c.index.result.now
    (slice_get-get_or c.args.plan.now.dead.items k c.index.result.now (omega (arith, a, b, o))
    ∙ ap Some (sym rows-is)) in
    let left : c.saturating_sub-left.result ≡ length (program_of c.args.plan.now.test.now k) - p.place =
    c.saturating_sub-left.ensures
    ∙ ap (λ z. length c.program-program.result.now - z) c.from.ensures
    ∙ ap (λ z. length z - p.place) c.program-program.ensures.value in
    let row =
    c.index-in-loop-core.ensures
    ∙ row-is (program_of c.args.plan.now.test.now k) (hidden_of c.args.plan.now.hidden.now k)
    c.index.result.now.items p.place c.saturating_sub-left.result _ rows left in
    let core-is : core_of_processor (kept p c.clear.new.registers)
    ≡ forgotten_core (program_of c.args.plan.now.test.now k) (hidden_of c.args.plan.now.hidden.now k) (core_of_processor p) =
    ap (λ z. core_of_processor (kept p z)) (c.clear.ensures ∙ ap (λ z. cleared z p.registers) row) in
    record {
      count = length-set c.loop-core.state.cores.items c.from-at.result (kept p c.clear.new.registers) ∙ n;
      memory = c.loop-core.invariant.memory;
      cores =
          forgets-more c.args.plan.now.test.now c.args.plan.now.hidden.now
          (map core_of_processor c.args.state.now.cores.items) (map core_of_processor c.loop-core.state.cores.items) _ k
          (core_of_processor (kept p c.clear.new.registers)) c.loop-core.invariant.cores
          (let w = length-map c.loop-core.state.cores.items in omega (arith, w, within))
          (map-set c.loop-core.state.cores.items c.from-at.result (kept p c.clear.new.registers) ∙ (rw at refl))
          (core-is
          ∙ ap (forgotten_core (program_of c.args.plan.now.test.now k) (hidden_of c.args.plan.now.hidden.now k))
          (ap core_of_processor p-is ∙ sym (map-at c.loop-core.state.cores.items k p within)));
    }

pub returns : goal.returns
returns c =
    let a = c.loop-core-test.false in
    let b = c.cores-core-end.ensures.value in
    let n = c.loop-core.invariant.count in
    let m = c.requires.cores in
    let w = length-map c.loop-core.state.cores.items in
    let f =
    forgets-all c.args.plan.now.test.now c.args.plan.now.hidden.now
    (map core_of_processor c.args.state.now.cores.items) (map core_of_processor c.loop-core.state.cores.items)
    c.loop-core.core
    c.loop-core.invariant.cores (omega (arith, a, b, n, m, w)) in
    record {
      value = rw (c.loop-core.invariant.memory, f) refl;
      cores = n;
    }
