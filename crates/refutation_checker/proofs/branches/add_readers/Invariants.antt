use Rattle.refutation_checker.proofs.Vocabulary.{◌≡◌, ◌≤◌, ◌∷◌, ◌++◌, [], map, drop, filter, length, true, facts_of, branches_of, knowledge_of, reads_word}
use Rattle.possible_reads.specs.Facts as given
use Rattle.refutation_checker.proofs.branches.add_readers.Given as goal

-- those that were gone over have their branches
abbrev pub invariant-loop-left : goal.invariant-loop-left
invariant-loop-left l = record {
  within : l.left ≤ length l.told.events.now;
  branches : branches_of l.branches.items
      ≡ map (λ answer. answer ++ facts_of l.facts)
      (map (λ r. given.From r l.word true ∷ [])
      (filter (reads_word l.told.test.now (knowledge_of l.told) l.loc l.word) (drop l.left l.told.events.now)))
      ++ branches_of l.fn.branches.items;
}

abbrev pub decreases-loop-left : goal.decreases-loop-left
decreases-loop-left l = l.left
