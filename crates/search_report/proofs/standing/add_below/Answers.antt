use Rattle.search_report.proofs.Vocabulary.{◌∷◌, [], map}
use Rattle.std.specs.Vec.Iter.{into_iter_items}
use Rattle.reading_tables.specs.Told.{facts_of}
use Rattle.refutation_checker.specs.inner.Stack.{branches_of}
use Rattle.search_report.specs.inner.Standing.{branch_of, stack_of}
use Rattle.search_report.proofs.Lining.{branch_pushed, map-last, taken-first}
use Rattle.search_report.proofs.standing.add_below.Goals as goal

pub loop-facts-preserved : goal.loop-facts-preserved
loop-facts-preserved c =
    let before = c.args.before in
    let x = c.in-Some.facts in
    let rest = into_iter_items c.next.new.self in
    taken-first (λ fs. map (branch_of before) (branches_of fs)) (into_iter_items c.loop-facts.facts-iterator) rest x (branch_of before (facts_of x.items) ∷ [])
    (map-last (branch_of before) (branches_of rest) (facts_of x.items)) c.in-Some.ensures.steps.0
    (stack_of c.loop-facts.stack.items) (stack_of c.push.new.self.items) _
    (branch_pushed c.loop-facts.stack.items c.push.new.self.items _ c.in_ok-push.ensures.items) c.loop-facts.invariant
