use Rattle.machine_core.proofs.Vocabulary.{ap, ◌∙◌, length, length-map, map, sym, subst, IsTrue, ArePaired, is_ended, state_in, Processor}
use Rattle.machine_core.proofs.RunningLemmas.{has-ended, free-bus}
use Rattle.machine_core.proofs.Paired.{paired}
use Rattle.multiprocessor.proofs.CoreLemmas.{registers-core_states}
use Rattle.machine_core.proofs.machine.Machine.finish.Goals as goal

pub returns-clause-registers : goal.returns-clause-registers
returns-clause-registers g c =
    c.in_ok-state.ensures.registers
    ∙ registers-core_states 0 c.self.inside.hardware.processors.items
    ∙ ap (λ m. map (λ s. s.registers) m.state.flat.cores) c.self.view_is

pub final_state-requires-clause-free : goal.final_state-requires-clause-free
final_state-requires-clause-free g c =
    let t = c.self.inside.test.now in
    let hardware = c.self.inside.hardware in
    let ended = has-ended c.self.inside.failed _ (subst (λ m. IsTrue (is_ended m)) (sym c.self.view_is) c.requires) in
    free-bus t hardware c.self.invariant.held
    (c.what_holds_so_far_on_either_bus.ensures.free hardware.config.bus t hardware.config.depth hardware.commits.entries
    (state_in hardware) c.self.invariant.possible ended)

pub build-requires : goal.build-requires
build-requires g c =
    let t = c.self.inside.test.now in
    let hardware = c.self.inside.hardware in
    let ended = has-ended c.self.inside.failed _ (subst (λ m. IsTrue (is_ended m)) (sym c.self.view_is) c.requires) in
    let free =
    c.what_holds_so_far_on_either_bus.ensures.free hardware.config.bus t hardware.config.depth
    hardware.commits.entries (state_in hardware) c.self.invariant.possible ended in
    let so_far =
    c.what_holds_so_far_on_either_bus.ensures.so_far hardware.config.bus t hardware.config.depth
    hardware.commits.entries (state_in hardware) c.self.invariant.possible in
    paired hardware.commits.entries (subst (ArePaired hardware.commits.entries) free so_far.pairs)

pub returns-clause-cores : goal.returns-clause-cores
returns-clause-cores g c =
    ap length c.in_ok-state.ensures.registers
    ∙ length-map c.self.inside.hardware.processors.items (λ (p : Processor). p.registers)
    ∙ c.self.invariant.fits.cores
    ∙ ap (λ m. length m.test.programs) c.self.view_is

pub returns-clause-locations : goal.returns-clause-locations
returns-clause-locations g c = ap length c.in_ok-state.ensures.memory ∙ c.self.invariant.fits.words ∙ ap (λ m. length m.test.locations) c.self.view_is
