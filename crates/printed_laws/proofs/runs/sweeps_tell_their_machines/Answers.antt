use Rattle.printed_laws.proofs.reports.PrintedMachines.{sweeps-name}
use Rattle.printed_laws.proofs.runs.sweeps_tell_their_machines.Goals as goal

pub returns : goal.returns
returns c = sweeps-name
