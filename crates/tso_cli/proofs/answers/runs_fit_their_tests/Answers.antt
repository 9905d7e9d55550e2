use Rattle.tso_cli.proofs.FittingRuns.{run-fits, choices-counted}
use Rattle.tso_cli.proofs.FittingSweeps.{counts-fit}
use Rattle.tso_cli.proofs.HeadlineLemmas.{Runs}
use Rattle.tso_cli.proofs.Vocabulary.{RunLaws}
use Rattle.tso_cli.proofs.answers.runs_fit_their_tests.Goals as goal

pub returns-clause-ended : goal.returns-clause-ended
returns-clause-ended c =
    let runs : Runs = record {
      executions = c.ended_runs_of_machines_are_executions.ensures.executions;
      words = c.ended_runs_of_machines_are_executions.ensures.words;
      unbuffered = c.ended_runs_of_machines_are_executions.ensures.unbuffered;
      atomic = c.ended_runs_of_machines_are_executions.ensures.atomic;
      fits = c.whole_orders_have_each_entry_once.ensures.fits;
      report_spells = c.report_spells_its_order.ensures;
    } in
    let laws : RunLaws = record { atomic = c.atomic_runs_are_flat_runs.ensures; stops = c.runs_on_either_bus_stop_where_they_end.ensures } in
    run-fits runs laws c.order_can_be_printed.ensures

pub returns-clause-choices : goal.returns-clause-choices
returns-clause-choices c =
    let laws : RunLaws = record { atomic = c.atomic_runs_are_flat_runs.ensures; stops = c.runs_on_either_bus_stop_where_they_end.ensures } in
    choices-counted laws

pub returns-clause-swept : goal.returns-clause-swept
returns-clause-swept c =
    let runs : Runs = record {
      executions = c.ended_runs_of_machines_are_executions.ensures.executions;
      words = c.ended_runs_of_machines_are_executions.ensures.words;
      unbuffered = c.ended_runs_of_machines_are_executions.ensures.unbuffered;
      atomic = c.ended_runs_of_machines_are_executions.ensures.atomic;
      fits = c.whole_orders_have_each_entry_once.ensures.fits;
      report_spells = c.report_spells_its_order.ensures;
    } in
    counts-fit runs
