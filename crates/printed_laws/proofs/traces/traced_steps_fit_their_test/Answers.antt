use Rattle.printed_laws.proofs.steps.StepsFit.{traces-fit}
use Rattle.printed_laws.proofs.traces.traced_steps_fit_their_test.Goals as goal

pub returns : goal.returns
returns c = traces-fit
