use Rattle.trace_report.proofs.LaidIn.{changes-lead}
use Rattle.trace_report.proofs.told_runs.changes_lead_from_states_to_states.Goals as goal

pub returns : goal.returns
returns c = changes-lead
