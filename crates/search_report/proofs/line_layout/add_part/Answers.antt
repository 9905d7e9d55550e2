use Rattle.search_report.proofs.Lining.{line-moved}
use Rattle.search_report.proofs.line_layout.add_part.Goals as goal

pub loop-line-preserved : goal.loop-line-preserved
loop-line-preserved c =
    line-moved c.loop-line.left.items c.pop.new.self.items c.in-Some.line c.in-Some.ensures.items c.loop-line.all.items c.push-in-Some.new.self.items
    c.in_ok-push-in-Open.ensures.items _ c.loop-line.invariant
