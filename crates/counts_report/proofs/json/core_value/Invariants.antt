use Rattle.std.proofs.Common.{◌*◌, ◌+◌, drop}
use Rattle.tso_report.specs.inner.Objects.{HasMembers}
use Rattle.counts_report.specs.Printed.{count_names}
use Rattle.counts_report.specs.Json.{spreads_members}
use Rattle.counts_report.proofs.json.core_value.Given as goal

abbrev pub invariant-loop-number : goal.invariant-loop-number
invariant-loop-number l = HasMembers l.numbers (spreads_members (12 * l.core + l.number) (drop l.number count_names) l.spreads)
