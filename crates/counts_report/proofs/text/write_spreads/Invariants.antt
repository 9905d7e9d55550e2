use Rattle.std.proofs.Common.{◌≡◌, ◌++◌, ◌+◌, ◌*◌, drop, string_bytes}
use Rattle.counts_report.specs.Printed.{count_names, spreads_text}
use Rattle.counts_report.proofs.text.write_spreads.Given as goal

abbrev pub invariant-loop-number : goal.invariant-loop-number
invariant-loop-number l =
    string_bytes l.text ++ spreads_text (12 * l.core + l.number) (drop l.number count_names) l.spreads
    ≡ string_bytes l.initial.text ++ spreads_text (12 * l.core) count_names l.spreads
