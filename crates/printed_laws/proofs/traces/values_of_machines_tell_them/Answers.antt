use Rattle.printed_laws.proofs.steps.MachineValues.{machines-told}
use Rattle.printed_laws.proofs.traces.values_of_machines_tell_them.Goals as goal

pub returns : goal.returns
returns c = machines-told
