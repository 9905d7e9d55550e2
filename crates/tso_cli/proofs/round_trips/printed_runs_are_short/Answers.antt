use Rattle.tso_cli.proofs.HeadlineLemmas.{Runs}
use Rattle.tso_cli.proofs.Vocabulary.{RunLaws}
use Rattle.tso_cli.proofs.Rechecked.{printed-short}
use Rattle.tso_cli.proofs.round_trips.printed_runs_are_short.Goals as goal

pub returns : goal.returns
returns c =
    let runs : Runs = record {
      executions = c.ended_runs_of_machines_are_executions.ensures.executions;
      words = c.ended_runs_of_machines_are_executions.ensures.words;
      unbuffered = c.ended_runs_of_machines_are_executions.ensures.unbuffered;
      atomic = c.ended_runs_of_machines_are_executions.ensures.atomic;
      fits = c.whole_orders_have_each_entry_once.ensures.fits;
      report_spells = c.report_spells_its_order.ensures;
    } in
    let laws : RunLaws = record { atomic = c.atomic_runs_are_flat_runs.ensures; stops = c.runs_on_either_bus_stop_where_they_end.ensures } in
    λ kind config set input out within is.
    printed-short kind config set input out c.texts_are_read_one_way.ensures runs laws c.reports_are_short.ensures within is
