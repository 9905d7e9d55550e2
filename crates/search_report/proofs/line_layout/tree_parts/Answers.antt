use Rattle.search_report.proofs.Vocabulary.{◌∙◌, ap, map}
use Rattle.search_report.specs.inner.LineParts.{grown_by, stacked_parts}
use Rattle.search_report.specs.inner.Standing.{standing_of}
use Rattle.search_report.proofs.Lining.{grown-all, part-grown}
use Rattle.search_report.proofs.line_layout.tree_parts.Goals as goal

pub loop-standing-init : goal.loop-standing-init
loop-standing-init c =
    ap (λ ps. grown_by c.args.test.now (map standing_of c.args.all.items) (stacked_parts ps)) c.new-parts.ensures.items
    ∙ grown-all c.args.test.now (map standing_of c.args.all.items)

pub loop-standing-preserved : goal.loop-standing-preserved
loop-standing-preserved c =
    part-grown c.args.test.now c.loop-standing.left.items c.pop.new.self.items c.in-Some.standing c.in-Some.ensures.items
    c.loop-standing.parts.items c.part_of.new.parts.items c.push.new.self.items c.in_ok-part.part c.in_ok-push.ensures.items
    c.in_ok-part.ensures.part c.in_ok-part.ensures.rest _ c.loop-standing.invariant
