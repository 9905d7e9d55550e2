use Rattle.std.proofs.Common.{◌≡◌, length}
use Rattle.execution_check.specs.inner.Orders.{keeps}
use Rattle.execution_check.proofs.meeting.keeps_all_order.Given as goal

abbrev pub invariant-loop-x : goal.invariant-loop-x
invariant-loop-x l = keeps l.order ≡ keeps l.left

abbrev pub decreases-loop-x : goal.decreases-loop-x
decreases-loop-x l = length l.left
