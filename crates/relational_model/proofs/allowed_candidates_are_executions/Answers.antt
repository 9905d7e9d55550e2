use Rattle.relational_model.proofs.Converse.{is-of-an-execution}
use Rattle.relational_model.proofs.allowed_candidates_are_executions.Goals as goal

pub returns : goal.returns
returns c = λ t d a. is-of-an-execution t d a
