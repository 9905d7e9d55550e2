use Rattle.tso_cli.proofs.CheckLemmas.{printed-is-valid}
use Rattle.tso_cli.proofs.Vocabulary.{parts_of, RunLaws}
use Rattle.tso_cli.proofs.HeadlineLemmas.{Runs}
use Rattle.tso_cli.proofs.Rechecked.{rechecked}
use Rattle.tso_cli.proofs.round_trips.printed_runs_are_valid.Goals as goal

pub returns-clause-inputs : goal.returns-clause-inputs
returns-clause-inputs c =
    let texts = c.texts_are_read_one_way.ensures in
    let runs : Runs = record {
      executions = c.ended_runs_of_machines_are_executions.ensures.executions;
      words = c.ended_runs_of_machines_are_executions.ensures.words;
      unbuffered = c.ended_runs_of_machines_are_executions.ensures.unbuffered;
      atomic = c.ended_runs_of_machines_are_executions.ensures.atomic;
      fits = c.whole_orders_have_each_entry_once.ensures.fits;
      report_spells = c.report_spells_its_order.ensures;
    } in
    let laws : RunLaws = record { atomic = c.atomic_runs_are_flat_runs.ensures; stops = c.runs_on_either_bus_stop_where_they_end.ensures } in
    λ kind config set input out answer status within joinable is checked.
    rechecked kind config set input out answer status texts runs laws c.reports_are_short.ensures within
    (c.joined_parts_are_separated.ensures (parts_of input).test out joinable) is checked

pub returns-clause-tests : goal.returns-clause-tests
returns-clause-tests c =
    let texts = c.texts_are_read_one_way.ensures in
    λ t kind config r out answer status test short.
    printed-is-valid t kind config r out answer status texts.real texts.once texts.never_both test short
