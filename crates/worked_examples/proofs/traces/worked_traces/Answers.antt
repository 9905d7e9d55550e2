use Rattle.std.proofs.Common.{refl}
use Rattle.std.specs.Fmt.{digits}
use Rattle.snoop_bus.specs.Asks.{awaiting, requesting}
use Rattle.trace_report.specs.Steps.{trace_step_of}
use Rattle.worked_examples.proofs.traces.worked_traces.Goals as goal

pub returns-clause-handed_on : goal.returns-clause-handed_on
unfolding digits awaiting requesting trace_step_of
returns-clause-handed_on c = refl

pub returns-clause-awaited : goal.returns-clause-awaited
unfolding digits awaiting requesting trace_step_of
returns-clause-awaited c = refl
