use Rattle.search_report.proofs.Vocabulary.{◌≡◌, ◌++◌, map}
use Rattle.refutation_checker.specs.inner.Stack.{branches_of}
use Rattle.std.specs.Vec.Iter.{into_iter_items}
use Rattle.search_report.specs.inner.Standing.{branch_of, stack_of}
use Rattle.search_report.proofs.standing.add_below.Given as goal

-- those that are still to be added come before those that are there
abbrev pub invariant-loop-facts : goal.invariant-loop-facts
invariant-loop-facts l =
    map (branch_of l.before) (branches_of (into_iter_items l.facts-iterator)) ++ stack_of l.stack.items
    ≡ map (branch_of l.before) (branches_of l.fn.below.items) ++ stack_of l.fn.stack.items
