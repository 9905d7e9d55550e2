use Rattle.machine_runs.proofs.Vocabulary.{◌≡◌, ◌-◌, arith, ap, ◌∙◌, length, subst, sym, Litmus, CoresExist, AnswersFitBy, Drives}
use Rattle.machine_core.proofs.RunningLemmas.{on-ok, if-ok}
use Rattle.machine_runs.specs.inner.Observed.{Watched}
use Rattle.machine_runs.proofs.SimulationLemmas.{IsDriven, answers-fit}
use Rattle.machine_runs.proofs.Endings.{Laws, ending-is, ending-fits, ending-counts}
use Rattle.machine_runs.proofs.driving.run_to_the_end.Goals as goal
use Rattle.machine_runs.proofs.driving.run_to_the_end.Goals.{After-ending_of}

pub begin-requires : goal.begin-requires
begin-requires g c = subst (g.O.Observer.begins c.args.observer.now) (sym c.in_ok-machine.ensures) (c.requires.begins (g.P.Protocol.table c.args.protocol))

pub drive_machine-requires-clause-possible : goal.drive_machine-requires-clause-possible
drive_machine-requires-clause-possible g c =
    rw c.in_ok-machine.ensures
    (c.attempts_lead_from_state_to_state.ensures.first c.args.setup.now.config.bus c.args.setup.now.test.now c.args.setup.now.config.depth)

pub drive_machine-requires-clause-fresh : goal.drive_machine-requires-clause-fresh
drive_machine-requires-clause-fresh g c = ap (λ m. m.failed) c.in_ok-machine.ensures

pub drive_machine-requires-clause-cores : goal.drive_machine-requires-clause-cores
drive_machine-requires-clause-cores g c =
    subst (λ cs. CoresExist (length c.in_ok-machine.machine.test.programs) cs) (sym c.new-choices.ensures)
    (subst (λ (t : Litmus). CoresExist (length t.programs) c.args.choices.now) (sym (ap (λ m. m.test) c.in_ok-machine.ensures)) c.requires.cores)

pub drive_machine-requires-clause-watches : goal.drive_machine-requires-clause-watches
drive_machine-requires-clause-watches g c = c.in_ok-begin.ensures.watches

pub end-requires : goal.end-requires
end-requires g c = c.in_ok-progress.ensures.watches

pub ending_of-requires : goal.ending_of-requires
ending_of-requires g c = c.in_ok-progress.ensures.drives.test ∙ ap (λ m. m.test) c.in_ok-machine.ensures

laws : (g : _) (c : After-ending_of g) → Laws
laws g c = record {
  runs = record { atomic = c.atomic_runs_are_flat_runs.ensures; stops = c.runs_on_either_bus_stop_where_they_end.ensures };
  executions = c.ended_runs_of_machines_are_executions.ensures.executions;
  once = c.whole_orders_have_each_entry_once.ensures;
}

-- the new machine was driven
driven : (g : _) (c : After-ending_of g)
    → IsDriven (g.P.Protocol.table c.args.protocol) c.args.setup.now.config c.args.setup.now.test.now
    c.in_ok-machine.machine c.drive_machine.new.machine c.args.choices.now c.in_ok-progress.progress.used
    c.in_ok-progress.progress.stalled
driven g c = (
  c.in_ok-machine.ensures,
  subst (λ cs.
      Drives c.in_ok-machine.machine c.drive_machine.new.machine cs c.in_ok-progress.progress.used c.in_ok-progress.progress.stalled)
      c.new-choices.ensures c.in_ok-progress.ensures.drives,
)

-- what is left over is what wasn't used
unused-are : (g : _) (c : After-ending_of g) → c.left.result ≡ length c.args.choices.now - c.in_ok-progress.progress.used
unused-are g c = omega (arith, c.left.ensures, c.in_ok-progress.ensures.left, ap length c.new-choices.ensures)

fit : (g : _) (c : After-ending_of g) → AnswersFitBy (g.P.Protocol.table c.args.protocol) c.args.setup.now.config c.args.setup.now.test.now c.args.choices.now
fit g c =
    answers-fit (g.P.Protocol.table c.args.protocol) c.args.setup.now.config c.args.setup.now.test.now
    c.in_ok-machine.machine c.drive_machine.new.machine c.args.choices.now _ _ (driven g c)

pub returns-clause-ending : goal.returns-clause-ending
returns-clause-ending g c = if-ok c.ending_of.result _ _
    (λ e left. ending-is (g.P.Protocol.table c.args.protocol) c.args.setup.now.config c.args.setup.now.test.now _ _ c.args.choices.now _ _ _ e (laws g c)
    (record { driven = driven g c; unused_are = unused-are g c; left = left }))
    c.ending_of.ensures

pub returns-clause-fits : goal.returns-clause-fits
returns-clause-fits g c = if-ok c.ending_of.result _ _
    (λ e left.
    ending-fits (g.P.Protocol.table c.args.protocol) c.args.setup.now.config c.args.setup.now.test.now _ _
    c.args.choices.now _ _ _ e (laws g c) c.know_limits.ensures (fit g c)
    (c.in_ok-progress.ensures.drives.test ∙ ap (λ m. m.test) c.in_ok-machine.ensures)
    (record { driven = driven g c; unused_are = unused-are g c; left = left }))
    c.ending_of.ensures

pub returns-clause-counts : goal.returns-clause-counts
returns-clause-counts g c = if-ok c.ending_of.result _ _
    (λ e left. ending-counts (g.P.Protocol.table c.args.protocol) c.args.setup.now.config c.args.setup.now.test.now _ _ c.args.choices.now _ _ _ e
    (record { driven = driven g c; unused_are = unused-are g c; left = left }))
    c.ending_of.ensures

pub returns-clause-answers : goal.returns-clause-answers
returns-clause-answers g c = on-ok c.ending_of.result _ (fit g c)

pub returns-clause-watched : goal.returns-clause-watched
returns-clause-watched g c = on-ok c.ending_of.result _ (record {
  begun = c.begin.new.self;
  driven = c.drive_machine.new.observer;
  left = c.drive_machine.new.machine;
  opens = subst (λ m. g.O.Observer.opens c.args.observer.now m c.begin.new.self) c.in_ok-machine.ensures c.in_ok-begin.ensures.opens;
  watched =
      subst (λ m.
      Watched g.O.Observer.makes c.begin.new.self m 1 c.args.choices.now c.drive_machine.new.observer c.drive_machine.new.machine)
      c.in_ok-machine.ensures
      (subst (λ cs.
      Watched g.O.Observer.makes c.begin.new.self c.in_ok-machine.machine 1 cs c.drive_machine.new.observer c.drive_machine.new.machine)
      c.new-choices.ensures
      c.in_ok-progress.ensures.watched);
  ends = c.in_ok-end.ensures;
})
