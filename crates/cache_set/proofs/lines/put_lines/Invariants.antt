use Rattle.cache_set.proofs.Vocabulary.{◌≡◌, ◌++◌, drop, lines_of_words}
use Rattle.cache_set.proofs.lines.put_lines.Given as goal

abbrev pub invariant-loop-line : goal.invariant-loop-line
invariant-loop-line l = l.lines ≡ lines_of_words l.size l.words l.line ++ drop l.line l.initial.lines
