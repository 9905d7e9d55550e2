use Rattle.std.proofs.Common.{◌≡◌, drop}
use Rattle.execution_check.specs.inner.Orders.{is_preceded_by}
use Rattle.execution_check.proofs.meeting.is_preceded_by.Given as goal

abbrev pub invariant-loop-y : goal.invariant-loop-y
invariant-loop-y l = is_preceded_by l.x l.later ≡ is_preceded_by l.x (drop l.y-index l.later)
