use Rattle.std.proofs.Common.{◌≡◌, ◌++◌, ◌-◌, string_bytes}
use Rattle.counts_report.specs.Printed.{core_lines}
use Rattle.counts_report.proofs.text.write_core_lines.Given as goal

abbrev pub invariant-loop-core : goal.invariant-loop-core
invariant-loop-core l =
    string_bytes l.text ++ core_lines l.core (l.cores - l.core) l.spreads ≡ string_bytes l.initial.text ++ core_lines 0 l.cores l.spreads
