use Rattle.machine_core.proofs.Vocabulary.{[], false, refl, ap, ◌∙◌, start, unheld, restarted, state_in, statistics_in}
use Rattle.machine_core.proofs.Beginning.{possible-first}
use Rattle.machine_core.proofs.RunningLemmas.{Running-same}
use Rattle.machine_core.proofs.machine.Machine.restart.Goals as goal

pub restart-requires-clause-test : goal.restart-requires-clause-test
restart-requires-clause-test g c = c.self.invariant.tallied.test

pub restart-requires-clause-counts : goal.restart-requires-clause-counts
restart-requires-clause-counts g c = c.self.invariant.tallied.cores

pub invariant_of-self : goal.invariant_of-self
invariant_of-self g c =
    let r = c.restart.ensures in
    record {
      fits = r.begun.fits;
      held = r.begun.held;
      possible = possible-first c.self.inside.test.now c.restart.new.hardware c.attempts_lead_from_state_to_state.ensures.first r.begun.state r.begun.commits;
      tallied = r.begun.tallied;
    }

pub returns : goal.returns
returns g c =
    let r = c.restart.ensures in
    let t = c.self.inside.test.now in
    let old = c.self.inside.hardware in
    let new = c.restart.new.hardware in
    Running-same _ t old.config.bus new.config.bus old.config.depth new.config.depth (unheld (start t)) (state_in new)
    [] new.commits.entries _ (statistics_in new) false false
    refl (ap (λ config. config.bus) r.config) (ap (λ config. config.depth) r.config) r.begun.state r.begun.commits r.statistics refl
    ∙ ap restarted c.self.view_is
