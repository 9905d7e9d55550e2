use Rattle.refutation_checker.proofs.Vocabulary.{◌≡◌, ◌≤◌, ◌∷◌, ◌++◌, [], map, drop, length, true, facts_of, branches_of}
use Rattle.possible_reads.specs.Facts as given
use Rattle.refutation_checker.proofs.branches.add_values.Given as goal

-- those that were gone over have their branches
abbrev pub invariant-loop-left : goal.invariant-loop-left
invariant-loop-left l = record {
  within : l.left ≤ length l.values;
  branches : branches_of l.branches.items
      ≡ map (λ answer. answer ++ facts_of l.facts) (map (λ value. given.Returns l.read value true ∷ []) (drop l.left l.values))
      ++ branches_of l.fn.branches.items;
}

abbrev pub decreases-loop-left : goal.decreases-loop-left
decreases-loop-left l = l.left
