use Rattle.witnesses.proofs.AlongLemmas.{one-step-more}
use Rattle.witnesses.proofs.along.push_steps.Goals as goal

pub loop-step-preserved : goal.loop-step-preserved
loop-step-preserved c = one-step-more _ _ _ c.args.core.0 c.loop-step._step c.loop-step.invariant c.in_ok-push.ensures.items
