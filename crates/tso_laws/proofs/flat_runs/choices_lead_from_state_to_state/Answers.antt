use Rattle.tso_laws.proofs.SoFar.{possible-start, possible-next, possible-run}
use Rattle.tso_laws.proofs.flat_runs.choices_lead_from_state_to_state.Goals as goal

pub returns : goal.returns
returns c = record { first = possible-start; next = possible-next; runs = possible-run }
