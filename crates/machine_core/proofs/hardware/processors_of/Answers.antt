use Rattle.machine_core.proofs.Vocabulary.{◌≡◌, ◌+◌, append-nil, ◌∷◌, [], ap, sym, ◌∙◌, refl, subst, length, length-append, arith, drop}
use Rattle.machine_core.proofs.Vocabulary.{All, ◌++◌, started, core_states, IsCore, Processor}
use Rattle.multiprocessor.proofs.CoreLemmas.{started-next, IsCore-new, All-one_more}
use Rattle.machine_core.proofs.DoneCores.{all-dropped}
use Rattle.machine_core.proofs.hardware.processors_of.Goals as goal

begun : goal.In_ok-push → Processor
begun c = record { place = 0; registers = c.initial_registers-registers.result; stores = c.in_ok-stores.stores }

pub loop-core-preserved : goal.loop-core-preserved
unfolding begun
loop-core-preserved c = record {
  states =
      ap (λ ps.
      core_states 0 ps
      ++ started (c.loop-core.core + 1) (drop (c.loop-core.core + 1) c.args.test.now.programs) c.args.test.now.registers)
      c.in_ok-push.ensures.items
      ∙ started-next c.loop-core.processors.items (begun c) c.loop-core.core c.args.test.now.programs c.args.test.now.registers
      (omega (arith, c.cores-core-end.ensures.value, c.loop-core-test.true))
      refl c.initial_registers-registers.ensures (ap (λ s. s.items) c.in_ok-stores.ensures)
      ∙ c.loop-core.invariant.states;
  depths = λ locations.
      subst (λ ps. All (IsCore c.args.depth locations) ps) (sym c.in_ok-push.ensures.items)
      (All-one_more (IsCore c.args.depth locations) c.loop-core.processors.items (begun c) (c.loop-core.invariant.depths locations)
      (IsCore-new c.args.depth locations (begun c) c.in_ok-stores.ensures));
  size = ap length c.in_ok-push.ensures.items ∙ length-append c.loop-core.processors.items (begun c ∷ []) ∙ ap (λ n. n + 1) c.loop-core.invariant.size;
}

pub initial_registers-registers-requires : goal.initial_registers-registers-requires
initial_registers-registers-requires c = omega (arith, c.cores-core-end.ensures.value, c.loop-core-test.true)

pub loop-core-init : goal.loop-core-init
loop-core-init c = record {
  states = ap (λ ps. core_states 0 ps ++ started 0 c.args.test.now.programs c.args.test.now.registers) c.new-processors.ensures.items;
  depths = λ locations.
      subst (λ ps. All (IsCore c.args.depth locations) ps) (sym c.new-processors.ensures.items) (λ k d within. absurd (let z : ⊥ = omega (arith, within) in z));
  size = ap length c.new-processors.ensures.items;
}

pub returns : goal.returns
returns c =
    let core = c.loop-core.core in
    let programs = c.args.test.now.programs in
    let all : core ≡ length programs = omega (arith, c.loop-core-test.false, c.loop-core.auto.core-end, c.cores-core-end.ensures.value) in
    record {
      states = sym (append-nil (core_states 0 c.loop-core.processors.items))
          ∙ ap (λ left. core_states 0 c.loop-core.processors.items ++ started core left c.args.test.now.registers)
          (sym (all-dropped core programs (omega (arith, all))))
          ∙ c.loop-core.invariant.states;
      depths = c.loop-core.invariant.depths;
      count = c.loop-core.invariant.size ∙ all;
    }
