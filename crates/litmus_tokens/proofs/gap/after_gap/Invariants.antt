use Rattle.std.proofs.Common.{◌≡◌, ◌≤◌, length, None}
use Rattle.litmus_tokens.specs.Gap.{gap_end}
use Rattle.litmus_tokens.proofs.gap.after_gap.Given as goal

abbrev pub invariant-loop-after : goal.invariant-loop-after
invariant-loop-after l = record { same : gap_end None l.bytes ≡ gap_end None l.rest; within : length l.rest ≤ length l.bytes }

abbrev pub decreases-loop-after : goal.decreases-loop-after
decreases-loop-after l = length l.rest
