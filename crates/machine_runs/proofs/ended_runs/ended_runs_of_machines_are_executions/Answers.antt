use Rattle.machine_runs.proofs.BusLemmas.{EndedRuns, ended-execution, ended-words, ended-all-order, atomic-fit}
use Rattle.machine_runs.proofs.ended_runs.ended_runs_of_machines_are_executions.Goals as goal

pub returns : goal.returns
returns c =
    let runs : EndedRuns = record {
      atomic = c.atomic_runs_are_flat_runs.ensures;
      flat = c.runs_on_either_bus_are_flat_runs.ensures;
      free = c.runs_on_either_bus_stop_where_they_end.ensures.free;
      executions = c.ended_runs_are_executions.ensures;
      words = c.values_are_words.ensures.in_runs;
    } in
    record {
      executions = λ table config t choices. ended-execution table config t choices runs;
      words = λ table config t choices. ended-words table config t choices runs;
      unbuffered = λ table config t choices. ended-all-order table config t choices runs.atomic c.no_buffer_no_reordering_on_either_bus.ensures;
      atomic = λ table config t choices. atomic-fit table config t choices c.atomic_runs_are_flat_runs.ensures.fit;
    }
