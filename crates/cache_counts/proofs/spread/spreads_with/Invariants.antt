use Rattle.std.proofs.Common.{◌≡◌, All, ◌++◌, ◌+◌, drop}
use Rattle.cache_counts.specs.Counted.{spreads_with}
use Rattle.cache_counts.specs.inner.Bounds.{IsSumOf}
use Rattle.cache_counts.proofs.spread.spreads_with.Given as goal

-- the numbers before this place are laid in
abbrev pub invariant-loop-place : goal.invariant-loop-place
invariant-loop-place l = record {
  laid : l.next.items ++ spreads_with (drop l.place l.spreads) (drop l.place l.numbers) ≡ spreads_with l.spreads l.numbers;
  few : All (IsSumOf (l.runs + 1)) l.next.items;
}
