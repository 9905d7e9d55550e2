use Rattle.tso_laws.proofs.Exchanging.{exchangeable}
use Rattle.tso_laws.proofs.left_out_states.alike_cores_are_exchangeable.Goals as goal

pub returns : goal.returns
returns c = exchangeable
