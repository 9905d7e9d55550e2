use Rattle.sweep_runs.proofs.Vocabulary.{◌≤◌, ℕ, List, length, ap, sym, subst, ◌∙◌, refl, Litmus, Running, table_in, configuration_of, RunCounts}
use Rattle.sweep_runs.proofs.Vocabulary.{with_state_counted, with_verdict, values_in, machine_run, verdict, with_one_run, RunLaws, from-new}
use Rattle.sweep_runs.proofs.Vocabulary.{unfinished-is}
use Rattle.tso_terms.specs.Limits.{most_cores}
use Rattle.tso_terms.specs.Runs.{CoresExist}
use Rattle.tso_laws.specs.BusChoices.{IsPossibleOn}
use Rattle.sweep_runs.proofs.SweptRuns.{goes-back, as-before, counted-ended, counted-unfinished}
use Rattle.sweep_runs.proofs.StallsAgain.{none-noted}
use Rattle.sweep_runs.proofs.sweeping.MachineRunnerRunner.count_run.Goals as goal

pub drive_machine-requires-clause-fresh : goal.drive_machine-requires-clause-fresh
drive_machine-requires-clause-fresh g c = ap (λ (m : Running). m.failed) c.requires.runs.0

pub drive_machine-requires-clause-possible : goal.drive_machine-requires-clause-possible
drive_machine-requires-clause-possible g c =
    let m = c.args.self.now.machine in
    subst (λ (m : Running). IsPossibleOn m.bus m.test m.depth m.commits m.state) (sym c.requires.runs.0)
    (c.attempts_lead_from_state_to_state.ensures.first m.bus m.test m.depth)

pub returns-then-not-is_ended-clause-ended : goal.returns-then-not-is_ended-clause-ended
returns-then-not-is_ended-clause-ended g c =
    let m = c.args.self.now.machine in
    let laws : RunLaws = record { atomic = c.atomic_runs_are_flat_runs.ensures; stops = c.runs_on_either_bus_stop_where_they_end.ensures } in
    let drives = c.in_ok-drive_machine.ensures.drives in
    sym (unfinished-is (table_in m) (configuration_of m) m.test m _ (g.C.Choices.coming c.args.choices.now) _ _ laws (c.requires.runs.0, drives)
    (sym c.is_ended.ensures ∙ c.if-not-is_ended.true)).0

pub returns-then-not-is_ended-clause-counts : goal.returns-then-not-is_ended-clause-counts
returns-then-not-is_ended-clause-counts g c =
    c.add_unfinished.ensures.counts
    ∙ counted-unfinished c.args.test.now
    (machine_run c.args.self.now.machine (g.C.Choices.coming c.args.choices.now)) c.args.tally.now.counts
    (sym (returns-then-not-is_ended-clause-ended g c))

pub returns-then-not-is_ended-clause-again : goal.returns-then-not-is_ended-clause-again
returns-then-not-is_ended-clause-again g c =
    let ready =
    as-before c.args.self.now.machine _ c.args.test.now
    (c.restart.ensures
    ∙ goes-back c.args.self.now.machine _ _ _ _ c.in_ok-drive_machine.ensures.drives
    ∙ sym c.requires.runs.0)
    c.requires.runs in
    record { again = ready.0; same = ready.1; fit = ready.2 }

pub returns-then-not-is_ended-clause-answers : goal.returns-then-not-is_ended-clause-answers
returns-then-not-is_ended-clause-answers g c =
    let m = c.args.self.now.machine in
    (from-new (table_in m) (configuration_of m) m.test m _ _ _ _ (c.requires.runs.0, c.in_ok-drive_machine.ensures.drives)).answers

pub returns-clause-ended : goal.returns-clause-ended
returns-clause-ended g c =
    let m = c.args.self.now.machine in
    let left = c.in_ok-state.state in
    let laws : RunLaws = record { atomic = c.atomic_runs_are_flat_runs.ensures; stops = c.runs_on_either_bus_stop_where_they_end.ensures } in
    let drives = c.in_ok-drive_machine.ensures.drives in
    sym (counted-ended (table_in m) (configuration_of m) m.test m _ (g.C.Choices.coming c.args.choices.now) _ _
    left.registers.items left.memory.items _ c.args.tally.now.counts laws
    (c.requires.runs.0, drives) (sym c.is_ended.ensures ∙ c.if-not-is_ended.false)
    c.in_ok-state.ensures.registers c.in_ok-state.ensures.memory refl).0

pub returns-clause-counts : goal.returns-clause-counts
returns-clause-counts g c =
    let m = c.args.self.now.machine in
    let t = c.args.test.now in
    let left = c.in_ok-state.state in
    let cs = g.C.Choices.coming c.args.choices.now in
    let laws : RunLaws = record { atomic = c.atomic_runs_are_flat_runs.ensures; stops = c.runs_on_either_bus_stop_where_they_end.ensures } in
    let drives = c.in_ok-drive_machine.ensures.drives in
    let counted =
    counted-ended (table_in m) (configuration_of m) m.test m _ cs _ _ left.registers.items left.memory.items
    (verdict m.test left.registers.items left.memory.items) c.args.tally.now.counts laws
    (c.requires.runs.0, drives) (sym c.is_ended.ensures ∙ c.if-not-is_ended.false)
    c.in_ok-state.ensures.registers c.in_ok-state.ensures.memory refl in
    let count : Litmus → List (List ℕ) → List ℕ → RunCounts =
    λ u r w. with_verdict (verdict u r w) (with_state_counted (values_in u r w) c.args.tally.now.counts) in
    c.in_ok-count_state.ensures.counts
    ∙ ap (λ r. count t r c.deref-2.result.now) c.deref.ensures.value ∙ ap (λ w. count t left.registers.items w) c.deref-2.ensures.value
    ∙ ap (λ (u : Litmus). count u left.registers.items left.memory.items) (sym c.requires.runs.1)
    ∙ counted.1 ∙ ap (λ (u : Litmus). with_one_run u (machine_run m cs) c.args.tally.now.counts) c.requires.runs.1

pub returns-clause-answers : goal.returns-clause-answers
returns-clause-answers g c =
    let m = c.args.self.now.machine in
    (from-new (table_in m) (configuration_of m) m.test m _ _ _ _ (c.requires.runs.0, c.in_ok-drive_machine.ensures.drives)).answers

pub returns-clause-again : goal.returns-clause-again
returns-clause-again g c =
    let ready =
    as-before c.args.self.now.machine _ c.args.test.now
    (c.in_ok-state.ensures.restarted
    ∙ goes-back c.args.self.now.machine _ _ _ _ c.in_ok-drive_machine.ensures.drives
    ∙ sym c.requires.runs.0)
    c.requires.runs in
    record { again = ready.0; same = ready.1; fit = ready.2 }

pub drive_machine-requires-clause-cores : goal.drive_machine-requires-clause-cores
drive_machine-requires-clause-cores g c =
    subst (λ (t : Litmus). CoresExist (length t.programs) (g.C.Choices.coming c.args.choices.now)) (sym c.requires.runs.1) c.requires.cores

pub drive_machine-requires-clause-watches : goal.drive_machine-requires-clause-watches
drive_machine-requires-clause-watches g c = record {
  stall = none-noted c.nothing.result c.args.self.now.machine c.nothing.ensures;
  cores = subst (λ (t : Litmus). length t.programs ≤ most_cores) (sym c.requires.runs.1) c.know_limits.ensures.cores;
}

pub end_run-requires : goal.end_run-requires
end_run-requires g c = sym c.is_ended.ensures ∙ c.if-not-is_ended.false

pub count_state-requires : goal.count_state-requires
count_state-requires g c =
    let same = c.in_ok-drive_machine.ensures.drives.test ∙ c.requires.runs.1 in
    record {
      tally = c.requires.tally;
      cores = ap length c.deref.ensures.value ∙ c.in_ok-state.ensures.cores ∙ ap (λ (t : Litmus). length t.programs) same;
      locations = ap length c.deref-2.ensures.value ∙ c.in_ok-state.ensures.locations ∙ ap (λ (t : Litmus). length t.locations) same;
      room = c.requires.room;
    }

pub add_unfinished-requires : goal.add_unfinished-requires
add_unfinished-requires g c = c.requires.room

pub returns-clause-test : goal.returns-clause-test
returns-clause-test g c = c.count_state.ensures.test

pub returns-then-not-is_ended-clause-test : goal.returns-then-not-is_ended-clause-test
returns-then-not-is_ended-clause-test g c = c.add_unfinished.ensures.test
