use Rattle.branch_laws.proofs.Additions.{same-executions, same-program}
use Rattle.branch_laws.proofs.additions_share_a_test.Goals as goal

pub returns : goal.returns
returns c = record { executions = same-executions; program = same-program }
