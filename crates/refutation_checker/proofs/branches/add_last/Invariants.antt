use Rattle.refutation_checker.proofs.Vocabulary.{◌≡◌, ◌≤◌, ◌∷◌, ◌++◌, [], map, drop, filter, length, true, facts_of, readings_of, branches_of, can_be_last}
use Rattle.possible_reads.specs.Facts as given
use Rattle.refutation_checker.proofs.branches.add_last.Given as goal

-- those that were gone over have their branches
abbrev pub invariant-loop-left : goal.invariant-loop-left
invariant-loop-left l = record {
  within : l.left ≤ length l.told.events.now;
  branches : branches_of l.branches.items
      ≡ map (λ answer. answer ++ facts_of l.facts)
      (map (λ w. given.Last w true ∷ [])
      (filter (can_be_last l.told.test.now (facts_of l.told.facts.now) (readings_of l.told.readings.now) l.loc) (drop l.left l.told.events.now)))
      ++ branches_of l.fn.branches.items;
}

abbrev pub decreases-loop-left : goal.decreases-loop-left
decreases-loop-left l = l.left
