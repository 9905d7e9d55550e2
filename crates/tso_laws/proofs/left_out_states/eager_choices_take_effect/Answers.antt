use Rattle.tso_laws.proofs.Taking.{eager-takes}
use Rattle.tso_laws.proofs.left_out_states.eager_choices_take_effect.Goals as goal

pub returns : goal.returns
returns c = eager-takes
