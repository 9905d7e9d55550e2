use Rattle.std.proofs.Common.{◌-◌}
use Rattle.tso_report.specs.inner.Arrays.{IsBegun}
use Rattle.counts_report.specs.Json.{core_values}
use Rattle.counts_report.proofs.json.core_values.Given as goal

abbrev pub invariant-loop-core : goal.invariant-loop-core
invariant-loop-core l = IsBegun l.values (core_values l.core (l.cores - l.core) l.spreads) (core_values 0 l.cores l.spreads)
