use Rattle.refutation_checker.proofs.Vocabulary.{◌≡◌, [], map, take, drop, lemma_of, facts_of}
use Rattle.lemma_refutations.specs.Refutations.{hold}
use Rattle.refutation_checker.proofs.checking.hold.Given as goal

-- the lemmas that were gone over are shown
abbrev pub invariant-loop-lemma : goal.invariant-loop-lemma
invariant-loop-lemma l = record {
  count : l.number ≡ l.lemma-index;
  held : hold l.model l.problem.test.now (facts_of l.given) [] (map lemma_of l.lemmas)
      ≡ hold l.model l.problem.test.now (facts_of l.given) (map lemma_of (take l.lemma-index l.lemmas)) (map lemma_of (drop l.lemma-index l.lemmas));
}
