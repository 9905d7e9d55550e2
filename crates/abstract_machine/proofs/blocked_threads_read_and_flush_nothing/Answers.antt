use Rattle.abstract_machine.proofs.OneStep.{blocked-waits}
use Rattle.abstract_machine.proofs.blocked_threads_read_and_flush_nothing.Goals as goal

pub returns : goal.returns
returns c = blocked-waits
