use Rattle.std.proofs.Common.{string_bytes}
use Rattle.counts_report.proofs.Lines.{next-core}
use Rattle.counts_report.proofs.text.write_core_lines.Goals as goal

pub loop-core-preserved : goal.loop-core-preserved
loop-core-preserved c =
    next-core c.loop-core.core c.args.cores c.args.spreads.now (string_bytes c.loop-core.text) (string_bytes c.write_core.new.text) _
    c.loop-core-test.true c.in_ok-write_core.ensures c.loop-core.invariant
