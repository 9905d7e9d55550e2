use Rattle.tso_report.proofs.Vocabulary.{◌≡◌, ◌++◌, drop, string_bytes, cache_lines}
use Rattle.tso_report.proofs.report.write_caches.Given as goal

abbrev pub invariant-loop-core : goal.invariant-loop-core
invariant-loop-core l =
    string_bytes l.text ++ cache_lines l.core (drop l.core l.counts) ≡ string_bytes l.initial.text ++ cache_lines 0 l.counts
