use Rattle.refutation_checker.proofs.Vocabulary.{◌≡◌, drop, list_any, same_source}
use Rattle.refutation_checker.proofs.tables.is_one_of.Given as goal

abbrev pub invariant-loop-s : goal.invariant-loop-s
invariant-loop-s l = list_any (same_source l.source) (drop l.s-index l.sources) ≡ list_any (same_source l.source) l.sources
