use Rattle.machine_core.proofs.Vocabulary.{◌≡◌, [], false, IsTrue, IfOk, map, refl, ap, ◌∙◌, sym, subst, length, length-map, start, unheld}
use Rattle.machine_core.proofs.Vocabulary.{table_of_rows, restarted, is_ended, state_in, statistics_in, no_statistics}
use Rattle.machine_core.proofs.Beginning.{possible-first}
use Rattle.multiprocessor.proofs.CoreLemmas.{registers-core_states}
use Rattle.machine_core.proofs.RunningLemmas.{Running-same, has-ended, free-bus, if-ok}
use Rattle.machine_core.proofs.machine.Machine.end_run.Goals as goal

pub final_state-state-requires-clause-free : goal.final_state-state-requires-clause-free
final_state-state-requires-clause-free g c =
    let t = c.self.inside.test.now in
    let hardware = c.self.inside.hardware in
    let ended = has-ended c.self.inside.failed _ (subst (λ m. IsTrue (is_ended m)) (sym c.self.view_is) c.requires) in
    free-bus t hardware c.self.invariant.held
    (c.what_holds_so_far_on_either_bus.ensures.free hardware.config.bus t hardware.config.depth hardware.commits.entries
    (state_in hardware) c.self.invariant.possible ended)

pub restart-requires-clause-test : goal.restart-requires-clause-test
restart-requires-clause-test g c = c.self.invariant.tallied.test

pub restart-requires-clause-counts : goal.restart-requires-clause-counts
restart-requires-clause-counts g c = ap length c.final_state-state.ensures.counts ∙ c.self.invariant.tallied.cores

pub invariant_of-self : goal.invariant_of-self
invariant_of-self g c =
    let r = c.restart.ensures in
    record {
      fits = r.begun.fits;
      held = r.begun.held;
      possible = possible-first c.self.inside.test.now c.restart.new.hardware c.attempts_lead_from_state_to_state.ensures.first r.begun.state r.begun.commits;
      tallied = r.begun.tallied;
    }

pub returns-clause-registers : goal.returns-clause-registers
returns-clause-registers g c =
    subst (λ rs. IfOk c.final_state-state.result (λ f. f.registers.items ≡ rs))
    (registers-core_states 0 c.self.inside.hardware.processors.items
    ∙ ap (λ m. map (λ s. s.registers) m.state.flat.cores) c.self.view_is)
    c.final_state-state.ensures.registers

pub returns-clause-restarted : goal.returns-clause-restarted
returns-clause-restarted g c =
    let r = c.restart.ensures in
    let left = c.final_state-state.ensures in
    let t = c.self.inside.test.now in
    let old = c.self.inside.hardware in
    let mid = c.final_state-state.new.hardware in
    let new = c.restart.new.hardware in
    let config = r.config ∙ left.config in
    let statistics =
    r.statistics
    ∙ ap (λ rows. no_statistics (table_of_rows rows) mid.bus.shape t) left.machine.rows
    ∙ ap (λ shape. no_statistics (table_of_rows old.bus.rows) shape t) left.machine.shape in
    Running-same _ t old.config.bus new.config.bus old.config.depth new.config.depth (unheld (start t)) (state_in new)
    [] new.commits.entries _ (statistics_in new) false false
    refl (ap (λ config. config.bus) config) (ap (λ config. config.depth) config) r.begun.state r.begun.commits statistics refl
    ∙ ap restarted c.self.view_is

pub returns-clause-memory : goal.returns-clause-memory
returns-clause-memory g c =
    subst (λ words. IfOk c.final_state-state.result (λ f. f.memory.items ≡ words))
    (ap (λ m. m.state.flat.memory) c.self.view_is) c.final_state-state.ensures.memory

pub returns-clause-cores : goal.returns-clause-cores
returns-clause-cores g c =
    let cores = c.self.invariant.fits.cores ∙ ap (λ m. length m.test.programs) c.self.view_is in
    if-ok c.final_state-state.result _ _
    (λ f is. ap length is ∙ length-map c.self.inside.hardware.processors.items (λ p. p.registers) ∙ cores)
    c.final_state-state.ensures.registers

pub returns-clause-locations : goal.returns-clause-locations
returns-clause-locations g c =
    let words = c.self.invariant.fits.words ∙ ap (λ m. length m.test.locations) c.self.view_is in
    if-ok c.final_state-state.result _ _ (λ f is. ap length is ∙ words) c.final_state-state.ensures.memory
