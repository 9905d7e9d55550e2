use Rattle.printed_laws.proofs.reports.PrintedMachines.{lines-name, object-names}
use Rattle.printed_laws.proofs.runs.reports_tell_their_machines.Goals as goal

pub returns-clause-lines : goal.returns-clause-lines
returns-clause-lines c = lines-name

pub returns-clause-json : goal.returns-clause-json
returns-clause-json c = object-names
