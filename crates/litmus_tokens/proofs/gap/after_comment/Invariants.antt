use Rattle.std.proofs.Common.{◌≡◌, ◌≤◌, length}
use Rattle.litmus_tokens.specs.inner.Gap.{comment_end}
use Rattle.litmus_tokens.proofs.gap.after_comment.Given as goal

abbrev pub invariant-loop-rest : goal.invariant-loop-rest
invariant-loop-rest l = record { same : comment_end l.rest ≡ comment_end l.bytes; within : length l.rest ≤ length l.bytes }

abbrev pub decreases-loop-rest : goal.decreases-loop-rest
decreases-loop-rest l = length l.rest
