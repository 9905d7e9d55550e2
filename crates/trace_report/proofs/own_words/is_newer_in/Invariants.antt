use Rattle.trace_report.proofs.Vocabulary.{◌≡◌, length, is_newer_in}
use Rattle.trace_report.proofs.own_words.is_newer_in.Given as goal

abbrev pub invariant-loop-core : goal.invariant-loop-core
invariant-loop-core g l = is_newer_in l.machine l.line l.core ≡ is_newer_in l.machine l.line (length l.test.programs)
