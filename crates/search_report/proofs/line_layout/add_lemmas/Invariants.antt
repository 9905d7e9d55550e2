use Rattle.search_report.proofs.Vocabulary.{◌≡◌, ◌++◌, ◌+◌, drop, map}
use Rattle.reading_tables.specs.Told.{facts_of}
use Rattle.refutation_checker.specs.Trees.{lemma_of}
use Rattle.search_report.specs.Lines as spec
use Rattle.search_report.specs.inner.LineViews.{reason_line_of}
use Rattle.search_report.proofs.line_layout.add_lemmas.Given as goal

abbrev pub invariant-loop-at : goal.invariant-loop-at
invariant-loop-at l =
    map reason_line_of l.all.items ++ spec.lemmas_lines l.model l.problem.test.now (facts_of l.given) (l.at + 1) (map lemma_of (drop l.at l.lemmas))
    ≡ map reason_line_of l.fn.all.items ++ spec.lemmas_lines l.model l.problem.test.now (facts_of l.given) 1 (map lemma_of l.lemmas)
