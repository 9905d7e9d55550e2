use Rattle.search_report.proofs.Lining.{part-moved}
use Rattle.search_report.proofs.line_layout.tree_lines.Goals as goal

pub loop-part-preserved : goal.loop-part-preserved
loop-part-preserved c =
    part-moved c.loop-part.parts.items c.pop.new.self.items c.in-Some.part c.in-Some.ensures.items c.loop-part.lines.items c.add_part.new.all.items
    c.in_ok-add_part.ensures _ c.loop-part.invariant
