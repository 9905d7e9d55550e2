use Rattle.tso_report.proofs.Vocabulary.{◌+◌, drop, drop_more, string_bytes}
use Rattle.tso_report.proofs.Texts.{next-cache}
use Rattle.tso_report.proofs.report.write_caches.Goals as goal

pub loop-core-preserved : goal.loop-core-preserved
loop-core-preserved c =
    let xs = c.args.counts.now in
    let core = c.loop-core.core in
    next-cache core _ (drop (core + 1) xs) (drop core xs) (string_bytes c.loop-core.text) (string_bytes c.write_pieces.new.text) _
    c.in_ok-write_pieces.ensures (drop_more xs core _ c.loop-core-test.true) c.loop-core.invariant
