use Rattle.search_report.proofs.Vocabulary.{map}
use Rattle.search_report.specs.inner.Standing.{standing_of}
use Rattle.search_report.proofs.Branching.{one-more-stands}
use Rattle.search_report.proofs.standing.nodes_in_branches.Goals as goal

pub loop-node-preserved : goal.loop-node-preserved
loop-node-preserved c =
    one-more-stands c.args.model c.args.problem.now.test.now c.args.nodes.now c.loop-node.node-index c.node-item.result c.loop-node-test.true c.node-item.is
    c.loop-node.stack.items c.pop.new.self.items c.go_on.new.stack.items c.in-Some.branch c.in-Some.ensures.items
    (map standing_of c.loop-node.all.items) (map standing_of c.go_on.new.all.items) _ c.in_ok-go_on.ensures.standing c.in_ok-go_on.ensures.below
    c.loop-node.invariant
