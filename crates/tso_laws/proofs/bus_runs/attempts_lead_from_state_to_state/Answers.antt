use Rattle.tso_laws.proofs.BusStopping.{possible-first, possible-next, possible-runs}
use Rattle.tso_laws.proofs.bus_runs.attempts_lead_from_state_to_state.Goals as goal

pub returns : goal.returns
returns c = record { first = possible-first; next = possible-next; runs = possible-runs }
