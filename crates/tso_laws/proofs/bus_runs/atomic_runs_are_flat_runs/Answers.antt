use Rattle.tso_laws.proofs.BusVocabulary.{start}
use Rattle.tso_laws.proofs.Atomic.{atomic-is, atomic-free, atomic-fits, flat-together}
use Rattle.tso_laws.proofs.bus_runs.atomic_runs_are_flat_runs.Goals as goal

pub returns : goal.returns
returns c = record {
  atomic = atomic-is;
  free = atomic-free;
  fit = λ t depth attempts. atomic-fits t depth (start t) attempts;
  together = flat-together c.runs_stop_where_they_end.ensures.stops;
}
